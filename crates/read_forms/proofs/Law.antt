-- What is read without an unknown value can be printed.
use Rattle.std.proofs.Common.{◌≡◌, true, List, [], ◌∷◌, map, refl, sym, ap, ◌∙◌, subst}
use Rattle.op_table.specs.declared.rows.Level.{Level}
use Rattle.ir_forms.specs.declared.ops.Op.{Op}
use Rattle.ir_forms.specs.declared.ops.Region.{Region, Region-F, out-roll-Region}
use Rattle.ir_forms.specs.declared.ops.Func.{Func}
use Rattle.ir_forms.specs.declared.ops.Module.{Module}
use Rattle.ir_forms.specs.Ops.{ops_of}
use Rattle.module_grammar.specs.State.{at_start}
use Rattle.module_grammar.specs.Texts.{whole}
use Rattle.mlir_print.specs.Printable.{Part, Prints, Scope, IsPrintableFunc, ArePrintable, IsPrintable, defining, params_of}
use Rattle.read_forms.specs.Known.{knows_all, knows_all_in, all_true, all_know, has_no_unknown}
use Rattle.read_forms.specs.Reads.{ReadsPrintable}
use Rattle.read_forms.proofs.Triples.{met}
use Rattle.module_grammar.proofs.Ends.{and-left, and-right}
use Rattle.read_forms.proofs.Shows.{Piece, shown-prints, region-knows}
use Rattle.read_forms.proofs.Outcomes.{FuncShows, FuncsShow, triples}
use Rattle.read_forms.proofs.Sound.{are-sound}

func-prints : (level : Level) (f : Func) → FuncShows level f → knows_all_in f.body ≡ true → IsPrintableFunc level f
func-prints level f h k =
    let y : Region-F Op Region = record { params = []; ops = h.ops } in
    let ops : ops_of f.body ≡ h.ops = ap ops_of h.body ∙ ap (λ (z : Region-F Op Region). z.ops) (out-roll-Region y) in
    let known : all_true (map knows_all h.ops) ≡ true = sym (region-knows y) ∙ ap knows_all_in (sym h.body) ∙ k in
    let start : Scope = defining (record { next = 0; seen = [] }) (map (λ p. p.0) f.params) in (
      h.name,
      h.params,
      h.results,
      ap params_of h.body ∙ ap (λ (z : Region-F Op Region). z.params) (out-roll-Region y),
      h.at,
      h.named,
      (h.end, subst (λ (l : List Op). Prints level (Part.Ops l) start h.end) (sym ops) (shown-prints level (Piece.Ops h.ops) start h.end h.shows known)),
    )

funcs-print : (level : Level) (fs : List Func) → FuncsShow level fs → all_know fs ≡ true → ArePrintable level fs
funcs-print level [] h k = tt
funcs-print level (f ∷ fs) h k =
    (func-prints level f h.0 (and-left (knows_all_in f.body) (all_know fs) k), funcs-print level fs h.1 (and-right (knows_all_in f.body) (all_know fs) k))

pub reads-printable : ReadsPrintable
reads-printable level ts m b t known =
    let shown : FuncsShow level t.0.funcs =
    met (triples level) level (are-sound level) (λ s. FuncsShow level s.funcs) whole at_start ts t.0 t.1 b t.3
    (record { read = refl; held = refl; funcs = tt }, λ x n. λ u v w. x.funcs) in
    subst (λ (p : Module). IsPrintable level p) (sym t.2)
    (funcs-print level t.0.funcs shown (subst (λ (p : Module). has_no_unknown p ≡ true) t.2 known))
