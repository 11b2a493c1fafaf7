-- A printable module with its checks is printable.
use Rattle.std.proofs.Common.{Bool, true, false, ◌≡◌, ◌≤◌, ◌<◌, ℕ, zero, suc, ◌+◌, ◌-◌, ◌^◌, List, [], ◌∷◌, ◌++◌, map, length, Some, slice_get, refl, sym, ap, ◌∙◌, subst, arith}
use Rattle.std.specs.List.{All, slice_index_or}
use Rattle.op_table.specs.declared.rows.Level.{Level}
use Rattle.op_table.specs.declared.rows.Level.TheVariants.{Checked}
use Rattle.op_table.specs.Rows.{place_of}
use Rattle.ir_forms.specs.declared.ops.Op.{Op}
use Rattle.ir_forms.specs.declared.ops.Region.{Region, out-roll-Region}
use Rattle.ir_forms.specs.declared.ops.Func.{Func}
use Rattle.ir_forms.specs.declared.ops.Module.{Module}
use Rattle.ir_forms.specs.declared.ops.ValueNo.{ValueNo}
use Rattle.ir_forms.specs.declared.types.Ty.{Ty}
use Rattle.ir_forms.specs.Ops.{ops_of}
use Rattle.ir_verify.specs.Places.{Seen, in_body, places_along}
use Rattle.ir_verify.specs.Verdict.{IsSound, body_places}
use Rattle.ir_verify.proofs.PlaceLemmas.{places_in-out}
use Rattle.source_meaning.specs.Parts.{names_of}
use Rattle.source_meaning.specs.Renaming.{renamed_ops, renamed_params, renamed_region}
use Rattle.value_numbers.specs.Numbers.{as_numbers, defined_in, HasNumbers, IsCountable, numbered_values, place_in, value_numbered, values_inside, values_of}
use Rattle.number_laws.specs.Laws.{numbers_from, ValuesInOrder}
use Rattle.check_insert.specs.Shape.{checked, checked_func, checked_region, first_free}
use Rattle.check_insert.specs.Laws.{CheckedIsSound}
use Rattle.checked_values.specs.Laws.{DefinesOnce}
use Rattle.checked_values.proofs.InOrder.{once}
use Rattle.sound_laws.specs.Extended.{AreFine}
use Rattle.sound_laws.specs.Made.{Runs, values_along}
use Rattle.sound_laws.proofs.Merges.{Once, merged_new, merged_once, once_at}
use Rattle.sound_laws.proofs.Making.{runs_on}
use Rattle.value_numbers.specs.Numbers.{values_in}
use Rattle.sound_laws.proofs.Numbered.{values_at}
use Rattle.source_meaning.specs.Parts.{joined}
use Rattle.ir_forms.specs.Ops.{regions_of, results_of}
use Rattle.sound_laws.proofs.Numbered.{values_under}
use Rattle.sound_laws.proofs.Whole.{sound_fine}
use Rattle.checked_texts.specs.Laws.{CheckedIsPrintable}
use Rattle.mlir_print.specs.Printable.{ArePrintable, AreWritten, IsPrintable, IsPrintableFunc, NumberOn, Part, Ops, Regions, Prints, Scope, no_ops, operation, no_regions, region, defining, params_of, param_types, numbers}
use Rattle.checked_texts.proofs.Formed.{Formed, prints_formed}
use Rattle.checked_texts.proofs.Outs.{region_parts, region_out}
use Rattle.checked_texts.proofs.Prints.{Printed, number_on, print, runs_end, runs_split, sight, sight_both, sight_params}
use Rattle.checked_texts.proofs.RenamedForms.{ops_renamed, renamed_formed, renamed_types}
use Rattle.checked_texts.proofs.WalkForms.{RegionForm, checked_formed}

-- ---- what prints is numbered on

numbered_runs : (n : ℕ) (vs : List ValueNo) → NumberOn n vs → Runs n (n + length vs) vs
numbered_runs n [] h = let e : n ≡ n + 0 = omega arith in e
numbered_runs n (v ∷ vs) h =
    let e : n + 1 + length vs ≡ n + suc (length vs) = omega arith in
    (h.0, subst (λ m. Runs (n + 1) m vs) e (numbered_runs (n + 1) vs h.2))

abbrev Numbers : Part → ℕ → ℕ → Type 0
Numbers (Ops os) n m = Runs n m (values_along os)
Numbers (Regions o i rs) n m = Runs n m (joined (map values_inside rs))

prints_runs : {level : Level} {part : Part} {s end : Scope} → Prints level part s end → Numbers part s.next end.next
prints_runs (no_ops s) = refl
prints_runs (operation o os s inner end stands form at on seen regions rest) =
    runs_on s.next inner.next end.next (values_in o) (values_along os)
    (subst (Runs s.next inner.next) (sym (values_at o)) (runs_on s.next (s.next + length (results_of o)) inner.next (results_of o) (joined (map values_inside (regions_of o))) (numbered_runs s.next (results_of o) on) (prints_runs regions)))
    (prints_runs rest)
prints_runs (no_regions o i s) = refl
prints_runs (region o i r rs s inner end on ended ops rest) =
    runs_on s.next inner.next end.next (values_inside r) (joined (map values_inside rs))
    (subst (Runs s.next inner.next) (sym (values_under r)) (runs_on s.next (s.next + length (names_of (params_of r))) inner.next (names_of (params_of r)) (values_along (ops_of r)) (numbered_runs s.next (names_of (params_of r)) on) (prints_runs ops)))
    (prints_runs rest)

order_runs : (n k : ℕ) (vs : List ValueNo) → as_numbers vs ≡ numbers_from n k → Runs n (n + k) vs
order_runs n zero [] e = let same : n ≡ n + 0 = omega arith in same
order_runs n zero (v ∷ vs) e = cc
order_runs n (suc k) [] e = cc
order_runs n (suc k) (v ∷ vs) e =
    let head : v.0 ≡ n = cc in
    let tail : as_numbers vs ≡ numbers_from (n + 1) k = cc in
    let same : n + 1 + k ≡ n + suc k = omega arith in
    (head, subst (λ m. Runs (n + 1) m vs) same (order_runs (n + 1) k vs tail))

-- ---- one function

module _ (level : Level) (le : place_of level ≤ 1) (law : ValuesInOrder) (program : Module) (sound : IsSound program.funcs) (sound_then : IsSound (value_numbered (checked program)).funcs)
    (k : ℕ) (f : Func) (at : slice_get program.funcs k ≡ Some f) (then : slice_get (value_numbered (checked program)).funcs k ≡ Some (numbered_values (checked_func f)))
    (few : HasNumbers (checked_func f)) (h : IsPrintableFunc level f) where
  defines_once : DefinesOnce f
  defines_once =
      let heads : Runs 0 (0 + length (names_of f.params)) (names_of f.params) = numbered_runs 0 (names_of f.params) h.5 in
      let body : Runs (0 + length (names_of f.params)) h.6.0.next (values_along (ops_of f.body)) = prints_runs h.6.1 in
      let inside : Runs (0 + length (names_of f.params)) h.6.0.next (values_inside f.body) =
      subst (Runs (0 + length (names_of f.params)) h.6.0.next) (sym (values_under f.body ∙ ap (λ (ps : Seen). names_of ps ++ values_along (ops_of f.body)) h.3)) body in
      once_at (values_of f) (merged_once (merged_new (values_of f) 0 h.6.0.next (runs_on 0 (0 + length (names_of f.params)) h.6.0.next (names_of f.params) (values_inside f.body) heads inside)) tt tt)

  abbrev c : Func
  c = checked_func f

  abbrev g : Func
  g = numbered_values c

  abbrev σ : ℕ → ℕ
  σ = place_in (defined_in c)

  c_params : params_of c.body ≡ []
  c_params = ap (λ (x : Region × ℕ). params_of x.0) (region_out f.body (first_free f)) ∙ ap (λ l. l.params) (out-roll-Region _) ∙ h.3

  g_params : params_of g.body ≡ []
  g_params = ap (λ l. l.params) (region_parts σ c.body) ∙ ap (renamed_params σ) c_params

  runs : Runs 0 (0 + length (values_of c)) (values_of g)
  runs = order_runs 0 (length (values_of c)) (values_of g) (law c (once program sound k f at defines_once))

  formed_body : Formed Checked (Ops (ops_of g.body))
  formed_body = subst (λ (os : List Op). Formed Checked (Ops os)) (sym (ops_renamed σ c.body)) (renamed_formed σ c.body (checked_formed f.body (first_free f) (prints_formed Checked le h.6.1)).ops)

  func_printable : IsPrintableFunc Checked g
  func_printable =
      let m : ℕ = 0 + length (values_of c) in
      let one : (b : ℕ) × Runs 0 b (names_of g.params) × Runs b m (values_inside g.body) = runs_split 0 m (names_of g.params) (values_inside g.body) runs in
      let top : m ≤ 2 ^ 32 - 1 = omega (arith, few) in
      let up : one.0 ≤ 2 ^ 32 - 1 = let e : one.0 + length (values_inside g.body) ≡ m = runs_end one.0 m (values_inside g.body) one.2 in omega (arith, e, top) in
      let body : Runs one.0 m (values_along (ops_of g.body)) = subst (Runs one.0 m) (values_under g.body ∙ ap (λ (ps : Seen). names_of ps ++ values_along (ops_of g.body)) g_params) one.2 in
      let seen : Seen = g.params ++ params_of g.body in
      let fine : AreFine (places_along (value_numbered (checked program)).funcs (ops_of g.body) (in_body g false) seen) =
      subst AreFine (places_in-out (value_numbered (checked program)).funcs g.body (in_body g false) g.params) (sound_fine (value_numbered (checked program)).funcs sound_then k g then) in
      let p : Printed Checked (Ops (ops_of g.body)) one.0 (sight seen) m = print Checked (value_numbered (checked program)).funcs formed_body one.0 m (in_body g false) seen body top fine in
      let sees : sight seen ≡ numbers (names_of g.params) =
      sight_both g.params (params_of g.body) ∙ ap (λ (ps : Seen). sight g.params ++ sight ps) g_params ∙ nothing (sight g.params) ∙ sight_params g.params in
      let begin : 0 + length (names_of g.params) ≡ one.0 = runs_end 0 one.0 (names_of g.params) one.1 in (
        h.0,
        subst AreWritten (sym (renamed_types σ f.params)) h.1,
        h.2,
        g_params,
        h.4,
        number_on 0 one.0 (names_of g.params) one.1 up,
        (
          p.end,
          subst (λ n. Prints Checked (Ops (ops_of g.body)) (record { next = n; seen = numbers (names_of g.params) }) p.end) (sym begin)
              (subst (λ xs. Prints Checked (Ops (ops_of g.body)) (record { next = one.0; seen = xs }) p.end) sees p.prints),
        ),
      )
    where
      nothing : (xs : List ℕ) → xs ++ [] ≡ xs
      nothing [] = refl
      nothing (x ∷ xs) = ap (λ rest. x ∷ rest) (nothing xs)

-- ---- all functions

printable_at : (level : Level) (fs : List Func) → ArePrintable level fs → (k : ℕ) (f : Func) → slice_get fs k ≡ Some f → IsPrintableFunc level f
printable_at level [] h k f at = cc
printable_at level (x ∷ fs) h zero f at = let same : x ≡ f = cc in subst (IsPrintableFunc level) same h.0
printable_at level (x ∷ fs) h (suc k) f at = printable_at level fs h.1 k f at

all_printable : (level : Level) (gs : List Func) → ((k : ℕ) (g : Func) → slice_get gs k ≡ Some g → IsPrintableFunc level g) → ArePrintable level gs
all_printable level [] h = tt
all_printable level (g ∷ gs) h = (h 0 g refl, all_printable level gs (λ k x at. h (suc k) x at))

unmapped : (h : Func → Func) (xs : List Func) (k : ℕ) (y : Func) → slice_get (map h xs) k ≡ Some y → (x : Func) × (slice_get xs k ≡ Some x) × (h x ≡ y)
unmapped h [] k y at = cc
unmapped h (x ∷ xs) zero y at = let same : h x ≡ y = cc in (x, refl, same)
unmapped h (x ∷ xs) (suc k) y at = unmapped h xs k y at

all_at : (P : Func → Type 0) (fs : List Func) → All P fs → (k : ℕ) (f : Func) → slice_get fs k ≡ Some f → P f
all_at P [] h k f at = cc
all_at P (x ∷ fs) h zero f at = let same : x ≡ f = cc in subst P same (h 0 x (omega arith))
all_at P (x ∷ fs) h (suc k) f at = all_at P fs (λ j d under. h (suc j) d (omega (arith, under))) k f at

pub checked_is_printable : CheckedIsSound → ValuesInOrder → CheckedIsPrintable
checked_is_printable checks law level program le sound printable few =
    all_printable Checked (value_numbered (checked program)).funcs
    (λ k g at.
    let c : (x : Func) × (slice_get (checked program).funcs k ≡ Some x) × (numbered_values x ≡ g) = unmapped numbered_values (checked program).funcs k g at in
    let f : (x : Func) × (slice_get program.funcs k ≡ Some x) × (checked_func x ≡ c.0) = unmapped checked_func program.funcs k c.0 c.1 in
    let same : numbered_values (checked_func f.0) ≡ g = ap numbered_values f.2 ∙ c.2 in
    subst (IsPrintableFunc Checked) same
    (func_printable level le law program sound (checks program sound) k f.0 f.1 (at ∙ ap (λ x. Some x) (sym same)) (subst HasNumbers (sym f.2) (all_at HasNumbers (checked program).funcs few k c.0 c.1)) (printable_at level program.funcs printable k f.0 f.1)))
