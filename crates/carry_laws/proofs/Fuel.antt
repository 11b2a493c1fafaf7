-- Runs with fuel beside those without.
use Rattle.std.proofs.Common.{◌≡◌, ℕ, zero, suc, ◌+◌, ◌<◌, ◌≤◌, ◌⊎◌, Bool, true, false, cond, List, [], ◌∷◌, length, slice_get, Some, refl, sym, ap, subst, ◌∙◌, inl, inr, arith}
use Rattle.std.specs.Prelude.{ltb}
use Rattle.std.proofs.lemmas.Bool.{lt-ltb}
use Rattle.std.proofs.lemmas.Option.{none-some}
use Rattle.ir_forms.specs.declared.args.ArgValue.{ArgValue}
use Rattle.ir_forms.specs.declared.names.TraceEntry.{TraceEntry}
use Rattle.ir_forms.specs.declared.ops.Func.{Func}
use Rattle.ir_forms.specs.declared.ops.Module.{Module}
use Rattle.ir_forms.specs.declared.ops.ValueNo.{ValueNo}
use Rattle.ir_verify.specs.declared.calls.Call.{Call}
use Rattle.ir_verify.specs.Calls.{AreMarks, graph_of}
use Rattle.source_meaning.specs.declared.ends.SourceEnd.{SourceEnd}
use Rattle.source_meaning.specs.declared.ends.SourceEnd.TheVariants.{Spent}
use Rattle.source_meaning.specs.Runs.{IsUnspent}
use Rattle.source_meaning.specs.Tasks.{Program, Task}
use Rattle.source_meaning.specs.World.{World}
use Rattle.source_meaning.specs.Sequential.{Sequence, Moved, On, Over, move, and_moves, moves, Metered, burns, metered_on, metered, start, top_begins, IsProgram}
use Rattle.carry_laws.specs.Agreement.{Agreement}
use Rattle.carry_laws.specs.Laws.{FollowsIn}
use Rattle.carry_laws.proofs.InTurn.{ends_so}

module _ (p : Program) (entry fuel : ℕ) where
  -- a run with fuel is at what the run without fuel is at, or its fuel was spent
  abbrev Tells : Moved → Moved → Type 0
  Tells m v = (m ≡ v) ⊎ ((t : List TraceEntry) × (m ≡ Over (Spent fuel) t))

  lit : (begun : ℕ) (s : Sequence) (b : Bool) → Tells ((cond {A = Metered} b (begun + 1, move p entry s) (begun, Over (Spent fuel) s.trace)).1) (move p entry s)
  lit begun s true = inl refl
  lit begun s false = inr (s.trace, refl)

  burns_tell : (begun : ℕ) (b : Bool) (s : Sequence) → Tells (burns p entry fuel begun b s).1 (move p entry s)
  burns_tell begun false s = inl refl
  burns_tell begun true s = lit begun s (ltb begun fuel)

  one_tells : (begun : ℕ) (m : Moved) → Tells (metered_on p entry fuel begun m).1 (and_moves p entry m)
  one_tells begun (On s) = burns_tell begun (top_begins s.stack) s
  one_tells begun (Over e t) = inl refl

  on_tells : (begun : ℕ) (m v : Moved) → Tells m v → Tells (metered_on p entry fuel begun m).1 (and_moves p entry v)
  on_tells begun m v (inl e) = subst (λ x. Tells (metered_on p entry fuel begun m).1 (and_moves p entry x)) e (one_tells begun m)
  on_tells begun m v (inr e) = inr (e.0, ap (λ (x : Moved). (metered_on p entry fuel begun x).1) e.1)

  tells : (n : ℕ) (s : Sequence) → Tells (metered p entry fuel n s).1 (moves p entry n s)
  tells zero s = inl refl
  tells (suc n) s = on_tells (metered p entry fuel n s).0 (metered p entry fuel n s).1 (moves p entry n s) (tells n s)

  end_in : Moved → SourceEnd → SourceEnd
  end_in (On s) e = e
  end_in (Over e t) d = e

  settled : (m v : Moved) (end : SourceEnd) (trace : List TraceEntry) → m ≡ Over end trace → IsUnspent end → Tells m v → v ≡ Over end trace
  unfolding end_in
  settled m v end trace e u (inl is) = sym is ∙ e
  settled m v end trace e u (inr t) =
      let s : end ≡ Spent fuel = ap (λ (k : Moved). end_in k end) (sym e ∙ t.1) in elim (subst IsUnspent s u) [ ]

  -- a run with fuel that isn't spent comes to the same without
  pub unmetered : (n begun : ℕ) (s : Sequence) (end : SourceEnd) (trace : List TraceEntry) → metered p entry fuel n s ≡ (begun, Over end trace) → IsUnspent end → moves p entry n s ≡ Over end trace
  unmetered n begun s end trace e u = settled (metered p entry fuel n s).1 (moves p entry n s) end trace (ap (λ (m : Metered). m.1) e) u (tells n s)

  -- with as much fuel as steps, nothing is spent
  abbrev Fed : ℕ → Metered → Moved → Type 0
  Fed n m v = (m.0 ≤ n) × (m.1 ≡ v)

  lit_fed : (n begun : ℕ) (s : Sequence) → suc n ≤ fuel → begun ≤ n → Fed (suc n) (burns p entry fuel begun true s) (move p entry s)
  lit_fed n begun s h b =
      let l : ltb begun fuel ≡ true = lt-ltb begun fuel (omega (arith, h, b)) in
      subst (λ c. Fed (suc n) (cond {A = Metered} c (begun + 1, move p entry s) (begun, Over (Spent fuel) s.trace)) (move p entry s)) (sym l) (omega (arith, b), refl)

  burns_fed : (n begun : ℕ) (b : Bool) (s : Sequence) → suc n ≤ fuel → begun ≤ n → Fed (suc n) (burns p entry fuel begun b s) (move p entry s)
  burns_fed n begun false s h b = (omega (arith, b), refl)
  burns_fed n begun true s h b = lit_fed n begun s h b

  one_fed : (n begun : ℕ) (v : Moved) → suc n ≤ fuel → begun ≤ n → Fed (suc n) (metered_on p entry fuel begun v) (and_moves p entry v)
  one_fed n begun (On s) h b = burns_fed n begun (top_begins s.stack) s h b
  one_fed n begun (Over e t) h b = (omega (arith, b), refl)

  fed : (n : ℕ) (s : Sequence) → n ≤ fuel → Fed n (metered p entry fuel n s) (moves p entry n s)
  fed zero s h = (omega arith, refl)
  fed (suc n) s h =
      let m : Metered = metered p entry fuel n s in
      let so = fed n s (omega (arith, h)) in
      subst (λ v. Fed (suc n) (metered_on p entry fuel m.0 m.1) (and_moves p entry v)) so.1 (one_fed n m.0 m.1 h so.0)

  pub metered_too : (n : ℕ) (s : Sequence) (end : SourceEnd) (trace : List TraceEntry) → n ≤ fuel → moves p entry n s ≡ Over end trace → metered p entry fuel n s ≡ ((metered p entry fuel n s).0, Over end trace)
  metered_too n s end trace h e = ap (λ v. ((metered p entry fuel n s).0, v)) ((fed n s h).1 ∙ e)

-- ---- a module has one program

in_range : {X : Type 0} (xs : List X) (k : ℕ) (x : X) → slice_get xs k ≡ Some x → k < length xs
in_range [] k x is = absurd (none-some _ is)
in_range (y ∷ xs) zero x is = omega arith
in_range (y ∷ xs) (suc k) x is = let rest = in_range xs k x is in omega (arith, rest)

-- lists of truths that are true at the same places
alike : (m n : List Bool) → length m ≡ length n → ((k : ℕ) → slice_get m k ≡ Some true → slice_get n k ≡ Some true) →
    ((k : ℕ) → slice_get n k ≡ Some true → slice_get m k ≡ Some true) → m ≡ n
alike [] [] same there back = refl
alike [] (y ∷ n) same there back = absurd (omega (arith, same))
alike (x ∷ m) [] same there back = absurd (omega (arith, same))
alike (x ∷ m) (y ∷ n) same there back = by x y (there zero) (back zero) (alike m n (omega (arith, same)) (λ k. there (suc k)) (λ k. back (suc k)))
  where
    by : (a b : Bool) → (Some a ≡ Some true → Some b ≡ Some true) → (Some b ≡ Some true → Some a ≡ Some true) → m ≡ n → a ∷ m ≡ b ∷ n
    by true true f g rest = ap (λ l. true ∷ l) rest
    by false false f g rest = ap (λ l. false ∷ l) rest
    by true false f g rest = absurd (cc (f refl))
    by false true f g rest = absurd (cc (g refl))

marked : (graph : List (List Call)) (m n : List Bool) → AreMarks graph m → AreMarks graph n → (k : ℕ) → slice_get m k ≡ Some true → slice_get n k ≡ Some true
marked graph m n a b k is = let within = in_range m k true is in let each = a.each in b.complete k (a.sound k is) (omega (arith, within, each))

one_marks : (graph : List (List Call)) (m n : List Bool) → AreMarks graph m → AreMarks graph n → m ≡ n
one_marks graph m n a b = alike m n (a.each ∙ sym b.each) (marked graph m n a b) (marked graph n m b a)

abbrev program_with : List Func → List Bool → List (List ValueNo) → Program
program_with funcs called uses = record { funcs = funcs; called = called; uses = uses }

one_program : (program : Module) (p q : Program) → IsProgram program p → IsProgram program q → p ≡ q
one_program program p q a b =
    ap (λ f. program_with f p.called p.uses) (a.funcs ∙ sym b.funcs)
    ∙ ap (λ c. program_with q.funcs c p.uses) (one_marks (graph_of program.funcs) p.called q.called a.called b.called)
    ∙ ap (λ u. program_with q.funcs q.called u) (a.uses ∙ sym b.uses)

-- ---- what modules mean

module _ (Like : Task → Task → Type 0) (Kept : World → Type 0) (one other : Module) (p q : Program) (entry : ℕ) (args : List ArgValue) (a : IsProgram one p) (b : IsProgram other q) (A : Agreement Like Kept p q entry args) where
  pub means_so : FollowsIn one other entry args
  means_so fuel end trace m u =
      let comes : metered p entry fuel m.steps (start p entry args) ≡ (m.begun, Over end trace) =
      subst (λ x. metered x entry fuel m.steps (start x entry args) ≡ (m.begun, Over end trace)) (one_program one m.p p m.exact a) m.comes in
      let so = ends_so Like Kept p q entry args A m.steps end trace (unmetered p entry fuel m.steps m.begun (start p entry args) end trace comes u) in
      (so.0, λ more h. record { p = q; exact = b; steps = so.0; begun = (metered q entry more so.0 (start q entry args)).0; comes = metered_too q entry more so.0 (start q entry args) end trace h so.1 })
