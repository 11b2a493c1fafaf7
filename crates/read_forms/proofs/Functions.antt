-- The rules of functions and of the whole text.
use Rattle.std.proofs.Common.{◌≡◌, ◌<◌, ℕ, List, [], ◌∷◌, ◌++◌, map, refl, sym, ap, ◌∙◌, subst, arith}
use Rattle.op_table.specs.declared.rows.Level.{Level}
use Rattle.ir_forms.specs.declared.ops.Region.{roll-Region}
use Rattle.ir_forms.specs.declared.ops.Func.{Func}
use Rattle.ir_forms.specs.declared.types.Ty.{Ty}
use Rattle.module_grammar.specs.declared.symbols.Rule.TheVariants as rule
use Rattle.module_grammar.specs.declared.symbols.Symbol.{Symbol}
use Rattle.module_grammar.specs.declared.state.TextToken.{TextToken}
use Rattle.module_grammar.specs.declared.state.State.{State}
use Rattle.module_grammar.specs.State.{does, param_names, param_value, up, as_number}
use Rattle.module_grammar.specs.Tokens.{symbol_of}
use Rattle.module_grammar.specs.Rules.{func, part}
use Rattle.mlir_print.specs.Printable.{AreWritten, Scope}
use Rattle.read_forms.proofs.Triples.{Owes, Reached}
use Rattle.read_forms.proofs.Shows.{Piece, Shows}
use Rattle.read_forms.proofs.Outcomes.{BeforeFuncs, FuncsRead, FuncShows, FuncsShow, HeadRead, TypesRead, NumberRead, BodyRead, scope_at, triples}
use Rattle.read_forms.proofs.Words.{Lines}
use Rattle.read_forms.proofs.Bytes.{symbol-bytes}
use Rattle.read_forms.proofs.Regions.{params-number, params-types, defined-scope}
use Rattle.mlir_print.specs.Printable.{AreBytes}

-- ---- one function

one-more : (level : Level) (fs : List Func) (f : Func) → FuncsShow level fs → FuncShows level f → FuncsShow level (fs ++ f ∷ [])
one-more level [] f a h = (h, tt)
one-more level (g ∷ fs) f a h = (a.0, one-more level fs f a.1 h)

func-shows : (level : Level) (name : List ℕ) → AreBytes name → (before start : ℕ) → start < 4294967296 → (x : HeadRead 0 before) (us : TypesRead) (d : NumberRead start)
    → (y : BodyRead level (param_names x.read.params) x.read.next)
    → FuncShows level (record {
      name = name;
      params = map param_value x.read.params;
      results = us.types;
      body = roll-Region (record { params = []; ops = y.ops });
      at = d.at;
    })
func-shows level name bytes before start fits x us d y = record {
  name = bytes;
  params = subst (λ (l : List Ty). AreWritten l) (sym (params-types 0 x.read.params x.read.types x.read.are)) x.written;
  results = us.written;
  ops = y.ops;
  body = refl;
  at = d.fits fits;
  named = params-number 0 x.read.params x.read.types x.read.are;
  end = scope_at y.next (param_names x.read.params ++ y.names);
  shows = subst (λ (c : Scope). Shows level (Piece.Ops y.ops) c (scope_at y.next (param_names x.read.params ++ y.names)))
      (defined-scope 0 x.read.next [] x.read.params x.read.types x.read.are x.read.next_is) y.shows;
}

func-of : (level : Level) (s : State) (ss : List Symbol) (Q : State → Type 0) → FuncsShow level s.funcs → ((s' : State) → BeforeFuncs level s' → Owes (triples level) ss Q s')
    → Owes (triples level) (func ++ ss) Q (record s { read = []; held = [] })
unfolding does
func-of level s ss Q h f =
    λ n. (
      tt,
      λ v n1. λ t b a. λ n2. λ t1 b1 a1. (
        record { read = refl; room = omega arith },
        λ x n3. λ t2 b2 a2. (
          record { read = refl; results = refl },
          λ us n4. (
            tt,
            λ d n5.
                λ t3 b3 a3. λ n6. (
                  record { clean = record { read = refl; held = refl; room = omega (arith, x.read.next_is, x.read.rises) }; op = refl },
                  λ y n7. λ t4 b4 a4. λ n8.
                      f _ (record {
                        read = refl;
                        held = refl;
                        funcs = one-more level s.funcs _ h (func-shows level (symbol_of t) (symbol-bytes t b) s.counted (as_number (up s.begun 1)) (omega arith) x us d y);
                      }),
                ),
          ),
        ),
      ),
    )

func-owes : (level : Level) (s : State) (ss : List Symbol) (Q : State → Type 0) → BeforeFuncs level s → ((s' : State) → BeforeFuncs level s' → Owes (triples level) ss Q s')
    → Owes (triples level) (func ++ ss) Q s
func-owes level s ss Q h f =
    subst (λ (z : State). Owes (triples level) (func ++ ss) Q z)
    (ap (λ (l : List Ty). record s { read = l; held = [] }) (sym h.read) ∙ ap (λ (l : List TextToken). record s { held = l }) (sym h.held))
    (func-of level s ss Q h.funcs f)

-- ---- the text

at-token : (level : Level) (s : State) (t : TextToken) → BeforeFuncs level s → BeforeFuncs level (record s { last = t })
at-token level s t h = record { read = h.read; held = h.held; funcs = h.funcs }

pub funcs-lines : (level : Level) (s : State) → BeforeFuncs level s → Lines level rule.Funcs s
funcs-lines level s h = (
  λ t b a. func-owes level (record s { last = t }) (part rule.Funcs) (Reached (triples level) rule.Funcs s) (at-token level s t h) (λ s' g. (g, λ x n. (x, refl))),
  tt,
)

pub text-lines : (level : Level) (s : State) → BeforeFuncs level s → Lines level rule.Text s
text-lines level s h = (
  λ t b a. (tt, λ v n. (tt, λ w m. λ t1 b1 a1. (record { read = h.read; held = h.held; funcs = h.funcs }, λ x k. λ t2 b2 a2. (record { state = record x.state { last = t2 }; funcs = x.funcs }, refl)))),
  (
    λ t b a. func-owes level (record s { last = t }) (part rule.Funcs) (Reached (triples level) rule.Text s) (at-token level s t h) (λ s' g. (g, λ x n. (x, refl))),
    tt,
  ),
)

pub no-funcs : (level : Level) (s : State) → BeforeFuncs level s → (x : FuncsRead level) × (x.state ≡ s)
no-funcs level s h = (record { state = s; funcs = h.funcs }, refl)
