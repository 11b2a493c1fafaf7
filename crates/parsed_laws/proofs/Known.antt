-- No operand of a sound module that is read is unknown, so that it can be printed.
use Rattle.std.proofs.Common.{◌≡◌, ◌<◌, ℕ, zero, suc, ◌+◌, Bool, true, false, ◌&&◌, not, List, [], ◌∷◌, ◌++◌, length, map, slice_index_or, inl, inr, refl, ap, ◌∙◌, subst, arith}
use Rattle.std.specs.List.{All, Contains}
use Rattle.std.proofs.lemmas.Bool.Decides.{eqb_tells}
use Rattle.op_table.specs.declared.rows.Level.{Level}
use Rattle.ir_forms.specs.declared.ops.Func.{Func}
use Rattle.ir_forms.specs.declared.ops.Op.{Op, Op-F, roll-Op}
use Rattle.ir_forms.specs.declared.ops.Op.TheFolds.{fold-roll-Op, fold-roll-Region}
use Rattle.ir_forms.specs.declared.ops.Region.{Region, Region-F, roll-Region}
use Rattle.ir_forms.specs.declared.ops.ValueNo.{ValueNo}
use Rattle.source_meaning.specs.Parts.{joined, uses_of}
use Rattle.source_meaning.specs.TaskOrder.{Each}
use Rattle.value_numbers.specs.Numbers.{as_numbers, defined_in, values_of}
use Rattle.number_laws.proofs.Trees.{each-all}
use Rattle.sound_laws.specs.Laws.{SoundUsesOwn}
use Rattle.check_laws.proofs.Syntax.{tree}
use Rattle.check_laws.proofs.Tidy.{uses_in, uses_inside, uses-made, uses-held}
use Rattle.mlir_print.specs.Printable.{NumberOn}
use Rattle.read_forms.specs.Known.{is_known, all_known, all_true, op_knows, region_knows, knows_all, knows_all_in, all_know}
use Rattle.read_forms.specs.Reads.{ReadsPrintable}
use Rattle.read_forms.proofs.Outcomes.{FuncShows, FuncsShow}
use Rattle.parsed_laws.specs.Texts.{SoundIsPrintable}
use Rattle.parsed_laws.proofs.Forms.{token_bytes, text_shows}
use Rattle.parsed_laws.proofs.Values.{numbered}

-- ---- one value

known : (v : ValueNo) → v.0 < 4294967295 → is_known v ≡ true
known v h = elim (eqb_tells v.0 4294967295) [ inl same ↦ let e = same.1 in absurd (omega (arith, h, e)) | inr other ↦ ap not other.0 ]

below : (n : ℕ) (vs : List ValueNo) → NumberOn n vs → Each (λ x. x < 4294967295) (as_numbers vs)
below n [] h = tt
below n (v ∷ vs) h = (let same = h.0 in let few = h.1 in omega (arith, same, few), below (n + 1) vs h.2)

at-place : (xs : List ℕ) (k x : ℕ) → Each (λ x. x < 4294967295) xs → k < length xs → slice_index_or xs k x ≡ x → x < 4294967295
at-place [] k x h l e = absurd (let m : k < 0 = l in omega arith)
at-place (y ∷ xs) zero x h l e = subst (λ n. n < 4294967295) e h.0
at-place (y ∷ xs) (suc k) x h l e = at-place xs k x h.1 (let m : suc k < suc (length xs) = l in omega arith) e

-- ---- operands

-- each of these is a value
abbrev AreKnown : List ValueNo → Type 0
AreKnown vs = Each (λ v. is_known v ≡ true) vs

own-known : (f : Func) (vs : List ValueNo) → Each (λ x. x < 4294967295) (defined_in f) → Each (λ v. Contains (defined_in f) v.0) vs → AreKnown vs
own-known f [] few h = tt
own-known f (v ∷ vs) few h = (known v (at-place (defined_in f) h.0.0 v.0 few h.0.1 h.0.2), own-known f vs few h.1)

front-known : (us vs : List ValueNo) → AreKnown (us ++ vs) → AreKnown us
front-known [] vs h = tt
front-known (u ∷ us) vs h = (h.0, front-known us vs h.1)

rest-known : (us vs : List ValueNo) → AreKnown (us ++ vs) → AreKnown vs
rest-known [] vs h = h
rest-known (u ∷ us) vs h = rest-known us vs h.1

both-true : (a b : Bool) → a ≡ true → b ≡ true → a && b ≡ true
both-true true b e h = h
both-true false b e h = absurd cc

list-known : (vs : List ValueNo) → AreKnown vs → all_known vs ≡ true
list-known [] h = refl
list-known (v ∷ vs) h = both-true (is_known v) (all_known vs) h.0 (list-known vs h.1)

abbrev OpKnows : Op → Type 0
OpKnows o = AreKnown (uses_in o) → knows_all o ≡ true

abbrev RegionKnows : Region → Type 0
RegionKnows r = AreKnown (uses_inside r) → knows_all_in r ≡ true

regions-know : (rs : List Region) → Each RegionKnows rs → AreKnown (joined (map uses_inside rs)) → all_true (map knows_all_in rs) ≡ true
regions-know [] h k = refl
regions-know (r ∷ rs) h k =
    both-true (knows_all_in r) (all_true (map knows_all_in rs)) (h.0 (front-known (uses_inside r) (joined (map uses_inside rs)) k))
    (regions-know rs h.1 (rest-known (uses_inside r) (joined (map uses_inside rs)) k))

ops-know : (os : List Op) → Each OpKnows os → AreKnown (joined (map uses_in os)) → all_true (map knows_all os) ≡ true
ops-know [] h k = refl
ops-know (o ∷ os) h k =
    both-true (knows_all o) (all_true (map knows_all os)) (h.0 (front-known (uses_in o) (joined (map uses_in os)) k))
    (ops-know os h.1 (rest-known (uses_in o) (joined (map uses_in os)) k))

op-knows : (x : Op-F Op Region) → Each RegionKnows x.regions → OpKnows (roll-Op x)
op-knows x h k =
    let held : List ValueNo = joined (map uses_inside x.regions) in
    let all : AreKnown (x.operands ++ held) = subst AreKnown (uses-made x) k in
    fold-roll-Op Bool Bool op_knows region_knows x
    ∙ both-true (all_known x.operands) (all_true (map knows_all_in x.regions)) (list-known x.operands (front-known x.operands held all))
    (regions-know x.regions h (rest-known x.operands held all))

region-knows : (y : Region-F Op Region) → Each OpKnows y.ops → RegionKnows (roll-Region y)
region-knows y h k = fold-roll-Region Bool Bool op_knows region_knows y ∙ ops-know y.ops h (subst AreKnown (uses-held y) k)

-- ---- functions

func-knows : (level : Level) (f : Func) → FuncShows level f → All (λ v. Contains (defined_in f) v.0) (uses_of f) → knows_all_in f.body ≡ true
func-knows level f h own =
    tree OpKnows RegionKnows op-knows region-knows f.body
    (own-known f (uses_of f) (below 0 (values_of f) (numbered level f h)) (each-all (λ v. Contains (defined_in f) v.0) (uses_of f) own))

funcs-know : (level : Level) (fs : List Func) → FuncsShow level fs → Each (λ f. All (λ v. Contains (defined_in f) v.0) (uses_of f)) fs → all_know fs ≡ true
funcs-know level [] h own = refl
funcs-know level (f ∷ fs) h own = both-true (knows_all_in f.body) (all_know fs) (func-knows level f h.0 own.0) (funcs-know level fs h.1 own.1)

pub sound_is_printable : ReadsPrintable → SoundUsesOwn → SoundIsPrintable
sound_is_printable printable uses limits level text m h sound =
    let shows = text_shows limits level text m h.few h.is in
    let own = each-all (λ f. All (λ v. Contains (defined_in f) v.0) (uses_of f)) m.funcs (uses m sound) in
    let ts = h.is.0 in
    let reads = h.is.2 in
    let values = reads.3.values in
    let few = h.few in
    printable level ts m (token_bytes text ts h.is.1) (reads.0, reads.1, reads.2, omega (arith, values, few)) (funcs-know level m.funcs shows own)
