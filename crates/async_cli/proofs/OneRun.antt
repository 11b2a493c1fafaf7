-- A function of a module with the same arguments and fuel has one run in sequence.
use Rattle.std.proofs.Common.{◌≡◌, ◌<◌, ◌≤◌, ◌⊎◌, ℕ, zero, suc, Bool, true, false, List, [], ◌∷◌, length, slice_get, Option, Some, None, refl, sym, ap, subst, ◌∙◌, inl, inr, arith}
use Rattle.std.proofs.lemmas.Bool.{cases_order}
use Rattle.std.proofs.lemmas.Option.{none-some}
use Rattle.ir_forms.specs.declared.args.ArgValue.{ArgValue}
use Rattle.ir_forms.specs.declared.names.TraceEntry.{TraceEntry}
use Rattle.ir_forms.specs.declared.ops.Func.{Func}
use Rattle.ir_forms.specs.declared.ops.Module.{Module}
use Rattle.ir_forms.specs.declared.ops.ValueNo.{ValueNo}
use Rattle.ir_verify.specs.declared.calls.Call.{Call}
use Rattle.ir_verify.specs.Calls.{AreMarks, graph_of}
use Rattle.source_meaning.specs.declared.ends.SourceEnd.{SourceEnd}
use Rattle.source_meaning.specs.Tasks.{Program}
use Rattle.source_meaning.specs.Sequential.{Moved, On, Over, Metered, metered, metered_on, start, IsProgram, Means}

-- ---- the marks

in_range : {X : Type 0} (xs : List X) (k : ℕ) (x : X) → slice_get xs k ≡ Some x → k < length xs
in_range [] k x is = absurd (none-some _ is)
in_range (y ∷ xs) zero x is = omega arith
in_range (y ∷ xs) (suc k) x is = let rest = in_range xs k x is in omega (arith, rest)

-- lists of truths that are true at the same places
alike : (m n : List Bool) → length m ≡ length n → ((k : ℕ) → slice_get m k ≡ Some true → slice_get n k ≡ Some true) →
    ((k : ℕ) → slice_get n k ≡ Some true → slice_get m k ≡ Some true) → m ≡ n
alike [] [] same there back = refl
alike [] (y ∷ n) same there back = absurd (omega (arith, same))
alike (x ∷ m) [] same there back = absurd (omega (arith, same))
alike (x ∷ m) (y ∷ n) same there back = by x y (there zero) (back zero) (alike m n (omega (arith, same)) (λ k. there (suc k)) (λ k. back (suc k)))
  where
    by : (a b : Bool) → (Some a ≡ Some true → Some b ≡ Some true) → (Some b ≡ Some true → Some a ≡ Some true) → m ≡ n → a ∷ m ≡ b ∷ n
    by true true f g rest = ap (λ l. true ∷ l) rest
    by false false f g rest = ap (λ l. false ∷ l) rest
    by true false f g rest = absurd (cc (f refl))
    by false true f g rest = absurd (cc (g refl))

marked : (graph : List (List Call)) (m n : List Bool) → AreMarks graph m → AreMarks graph n → (k : ℕ) → slice_get m k ≡ Some true → slice_get n k ≡ Some true
marked graph m n a b k is = let within = in_range m k true is in let each = a.each in b.complete k (a.sound k is) (omega (arith, within, each))

pub one_marks : (graph : List (List Call)) (m n : List Bool) → AreMarks graph m → AreMarks graph n → m ≡ n
one_marks graph m n a b = alike m n (a.each ∙ sym b.each) (marked graph m n a b) (marked graph n m b a)

abbrev program_with : List Func → List Bool → List (List ValueNo) → Program
program_with funcs called uses = record { funcs = funcs; called = called; uses = uses }

one_program : (program : Module) (p q : Program) → IsProgram program p → IsProgram program q → p ≡ q
one_program program p q a b =
    ap (λ f. program_with f p.called p.uses) (a.funcs ∙ sym b.funcs)
    ∙ ap (λ c. program_with q.funcs c p.uses) (one_marks (graph_of program.funcs) p.called q.called a.called b.called)
    ∙ ap (λ u. program_with q.funcs q.called u) (a.uses ∙ sym b.uses)

-- ---- the steps

-- a run that is over
abbrev over : ℕ → SourceEnd → List TraceEntry → Metered
over begun end trace = (begun, Over end trace)

-- after n steps it is over
abbrev Come : Program → ℕ → List ArgValue → ℕ → ℕ → Metered → Type 0
Come p entry args fuel n m = metered p entry fuel n (start p entry args) ≡ m

more : (p : Program) (entry : ℕ) (args : List ArgValue) (fuel n begun : ℕ) (end : SourceEnd) (trace : List TraceEntry) →
    Come p entry args fuel n (over begun end trace) → Come p entry args fuel (suc n) (over begun end trace)
more p entry args fuel n begun end trace is = ap (λ (m : Metered). metered_on p entry fuel m.0 m.1) is

-- a run that is over stays so
later : (p : Program) (entry : ℕ) (args : List ArgValue) (fuel m n begun : ℕ) (end : SourceEnd) (trace : List TraceEntry) → m ≤ n →
    Come p entry args fuel m (over begun end trace) → Come p entry args fuel n (over begun end trace)
later p entry args fuel m zero begun end trace le is =
    let none : m ≡ zero = omega (arith, le) in subst (λ k. Come p entry args fuel k (over begun end trace)) none is
later p entry args fuel m (suc n) begun end trace le is = by (cases_order m (suc n)) (λ small. later p entry args fuel m n begun end trace small is)
  where
    by : (m ≡ suc n) ⊎ ((m < suc n) ⊎ (suc n < m)) → (m ≤ n → Come p entry args fuel n (over begun end trace)) → Come p entry args fuel (suc n) (over begun end trace)
    by (inl same) before = subst (λ k. Come p entry args fuel k (over begun end trace)) same is
    by (inr (inl less)) before = more p entry args fuel n begun end trace (before (omega (arith, less)))
    by (inr (inr past)) before = absurd (omega (arith, past, le))

abbrev end_or : SourceEnd → Moved → SourceEnd
end_or end (Over e trace) = e
end_or end (On s) = end

abbrev trace_in : Moved → List TraceEntry
trace_in (Over e trace) = trace
trace_in (On s) = []

same_over : (b c : ℕ) (e f : SourceEnd) (s t : List TraceEntry) → over b e s ≡ over c f t → (e ≡ f) × (s ≡ t)
same_over b c e f s t is = (ap (λ (m : Metered). end_or e m.1) is, ap (λ (m : Metered). trace_in m.1) is)

one_end : (p : Program) (entry : ℕ) (args : List ArgValue) (fuel m n c d : ℕ) (e f : SourceEnd) (s t : List TraceEntry) →
    Come p entry args fuel m (over c e s) → Come p entry args fuel n (over d f t) → (m ≡ n) ⊎ ((m < n) ⊎ (n < m)) → (e ≡ f) × (s ≡ t)
one_end p entry args fuel m n c d e f s t first second (inl same) =
    same_over c d e f s t (sym (later p entry args fuel m n c e s (omega (arith, same)) first) ∙ second)
one_end p entry args fuel m n c d e f s t first second (inr (inl less)) =
    same_over c d e f s t (sym (later p entry args fuel m n c e s (omega (arith, less)) first) ∙ second)
one_end p entry args fuel m n c d e f s t first second (inr (inr less)) =
    same_over c d e f s t (sym first ∙ later p entry args fuel n m d f t (omega (arith, less)) second)

pub one_run : (program : Module) (entry : ℕ) (args : List ArgValue) (fuel : ℕ) (e f : SourceEnd) (s t : List TraceEntry) →
    Means program entry args fuel e s → Means program entry args fuel f t → (e ≡ f) × (s ≡ t)
one_run program entry args fuel e f s t a b =
    let same : b.p ≡ a.p = one_program program b.p a.p b.exact a.exact in
    one_end a.p entry args fuel a.steps b.steps a.begun b.begun e f s t a.comes
    (subst (λ p. Come p entry args fuel b.steps (over b.begun f t)) same b.comes) (cases_order a.steps b.steps)
