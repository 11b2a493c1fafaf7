-- A module that is read is no deeper than the reader saw.
use Rattle.std.proofs.Common.{◌≡◌, ◌≤◌, ◌<◌, ℕ, max, Bool, true, false, List, ◌++◌, refl, arith}
use Rattle.std.specs.Prelude.{⊤}
use Rattle.op_table.specs.declared.rows.Level.{Level}
use Rattle.module_grammar.specs.declared.symbols.Act.{Act}
use Rattle.module_grammar.specs.declared.symbols.Act.TheVariants as act
use Rattle.module_grammar.specs.declared.symbols.Symbol.{Symbol}
use Rattle.module_grammar.specs.declared.state.TextToken.{TextToken}
use Rattle.module_grammar.specs.declared.state.State.{State}
use Rattle.module_grammar.specs.Engine.{Leads}
use Rattle.module_grammar.specs.State.{at_start, does}
use Rattle.module_grammar.specs.Rules.{grammar}
use Rattle.module_grammar.specs.Texts.{whole}
use Rattle.module_grammar.proofs.Grows.{leads-grew, does-grew}
use Rattle.read_forms.specs.Depths.{ReadsDepth}
use Rattle.read_forms.proofs.Nested.{StateFits, IsBodySeen, does-fits}
use Rattle.read_forms.proofs.Opens.{asks_at, asks_body, line-asks}

-- where a function is to end before a body is opened, a body was seen
abbrev SawBody : Bool → ℕ → Type 0
SawBody true seen = 1 ≤ seen
SawBody false seen = ⊤

saw-more : (b : Bool) (seen seen' : ℕ) → seen ≤ seen' → SawBody b seen → SawBody b seen'
saw-more true seen seen' m h = omega (arith, m, h)
saw-more false seen seen' m h = tt

saw-behind : (b c : Bool) (seen : ℕ) → (b ≡ true → c ≡ true) → SawBody c seen → SawBody b seen
saw-behind true true seen f h = h
saw-behind true false seen f h = let e : false ≡ true = f refl in absurd cc
saw-behind false c seen f h = tt

body-seen : (a : Act) (b : Bool) (seen : ℕ) → SawBody (asks_at a b) seen → IsBodySeen a seen
body-seen act.EndFunc b seen h = h
body-seen _ b seen h = tt

saw-one : (b : Bool) (seen : ℕ) → 1 ≤ seen → SawBody b seen
saw-one true seen h = h
saw-one false seen h = tt

saw-after : (a : Act) (b : Bool) (s : State) → SawBody (asks_at a b) s.deepest → SawBody b (does a s).deepest
unfolding does
saw-after act.EndFunc b s h = saw-one b s.deepest h
saw-after act.OpenBody b s h = saw-one b (max s.deepest 1) (omega arith)
saw-after a b s h = saw-more b s.deepest (does a s).deepest (does-grew a s).deepest h

leads-fit : (level : Level) (k : List Symbol) (s : State) (ts : List TextToken) (s' : State) → Leads (grammar level) k s ts s'
    → s'.deepest < 4294967296 → SawBody (asks_body false k) s.deepest → StateFits s → StateFits s'
leads-fit level _ _ _ _ (Leads.ended s) small saw h = h
leads-fit level _ _ _ _ (Leads.word c k s t ts s' e d) small saw h = leads-fit level k (record s { last = t }) ts s' d small saw h
leads-fit level _ _ _ _ (Leads.act a k s ts s' d) small saw h =
    let more = (leads-grew level k (does a s) ts s' d).deepest in
    leads-fit level k (does a s) ts s' d small (saw-after a (asks_body false k) s saw)
    (does-fits a s (omega (arith, more, small)) (body-seen a (asks_body false k) s.deepest saw) h)
leads-fit level _ _ _ _ (Leads.line r k s t ts s' l e d) small saw h =
    leads-fit level (l.after ++ k) (record s { last = t }) ts s' d small
    (saw-behind (asks_body false (l.after ++ k)) (asks_body false k) s.deepest (line-asks level r s t l k e) saw) h
leads-fit level _ _ _ _ (Leads.nothing r k s ts s' e n d) small saw h = leads-fit level k s ts s' d small saw h

pub reads-depth : ReadsDepth
reads-depth level ts s d small =
    (leads-fit level whole at_start ts s d small tt
    (record { funcs_fit = omega arith; outer_fit = tt; ops_fit = omega arith; regions_fit = omega arith; level_seen = omega arith })).funcs_fit
