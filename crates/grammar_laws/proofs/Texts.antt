-- The laws of the grammar, from those of the table.
use Rattle.std.proofs.Common.{◌≡◌, List, [], ◌∷◌, ◌++◌, Result, Ok, Err, refl, sym, ap, ◌∙◌}
use Rattle.op_table.specs.declared.rows.Level.{Level}
use Rattle.ir_forms.specs.declared.ops.Module.{Module}
use Rattle.module_grammar.specs.declared.symbols.Class.TheVariants as class
use Rattle.module_grammar.specs.Engine.{run, IsFirstFault, Begins, IsRefused}
use Rattle.module_grammar.specs.declared.state.TextToken.{TextToken}
use Rattle.module_grammar.specs.declared.state.State.{State}
use Rattle.module_grammar.specs.State.{at_start, module_of}
use Rattle.module_grammar.specs.Rules.{grammar}
use Rattle.module_grammar.specs.Endings.{endings}
use Rattle.module_grammar.specs.Texts.{whole, IsText, BeginsText, DoesntFit, IsFault, finished, ReadsEachText, ReadsTextsAlone, HasOneModule, FindsFirstFault}
use Rattle.module_grammar.proofs.Runs.{leads-run, run-leads}
use Rattle.grammar_laws.proofs.FirstFault.{fault-at}
use Rattle.module_grammar.proofs.Source.{can-end, whole-good}

pub each-text : ReadsEachText
each-text level ts m t =
    let e : run (grammar level) whole at_start ts ≡ Ok t.0 = leads-run (grammar level) whole at_start ts t.0 t.1 in
    let f : finished (run (grammar level) whole at_start ts) ≡ Ok (module_of t.0) = ap finished e in
    f ∙ ap (λ (x : Module). Ok x) (sym t.2)

read-text : (level : Level) (ts : List TextToken) (m : Module) (o : Result State (List TextToken))
    → run (grammar level) whole at_start ts ≡ o → finished o ≡ Ok m → IsText level ts m
read-text level ts m (Ok s) e f = (s, run-leads (grammar level) ts whole at_start s e, let h : m ≡ module_of s = cc in h)
read-text level ts m (Err rest) e f = absurd cc

pub texts-alone : ReadsTextsAlone
texts-alone level ts m e = read-text level ts m (run (grammar level) whole at_start ts) refl e

pub one-module : HasOneModule
one-module level ts m n t u =
    let e : Ok m ≡ Ok n = sym (each-text level ts m t) ∙ each-text level ts n u in
    let h : m ≡ n = cc in h

pub text-begins : (level : Level) (front : List TextToken) → Begins (grammar level) whole at_start front → BeginsText level front
text-begins level front b = (b.0, module_of b.1, (b.1, b.2, refl))

pub begins-text : (level : Level) (front : List TextToken) → BeginsText level front → Begins (grammar level) whole at_start front
begins-text level front b = (b.0, b.2.0, b.2.1)

doesnt-fit : (level : Level) (front rest : List TextToken) → IsRefused (grammar level) whole at_start front rest → DoesntFit level front rest
doesnt-fit level front [] h = tt
doesnt-fit level front (t ∷ rest) h = λ b. h (begins-text level (front ++ t ∷ []) b)

fault-of : (level : Level) (ts rest : List TextToken) → IsFirstFault (grammar level) whole at_start ts rest → IsFault level ts rest
fault-of level ts rest f = record {
  front = f.front;
  parts = f.parts;
  fits = text-begins level f.front f.fits;
  no_text = λ m t. f.no_text t.0 t.1;
  refused = doesnt-fit level f.front rest f.refused;
}

read-fault : (level : Level) (ts rest : List TextToken) (o : Result State (List TextToken))
    → run (grammar level) whole at_start ts ≡ o → finished o ≡ Err rest → IsFault level ts rest
read-fault level ts rest (Ok s) e f = absurd cc
read-fault level ts rest (Err r) e f =
    let h : r ≡ rest = cc in
    fault-of level ts rest
    (fault-at (grammar level) (endings level) (can-end level) class.End whole at_start ts rest (whole-good level)
    (e ∙ ap (λ (x : List TextToken). Err x) h))

pub first-fault : FindsFirstFault
first-fault level ts rest e = read-fault level ts rest (run (grammar level) whole at_start ts) refl e
