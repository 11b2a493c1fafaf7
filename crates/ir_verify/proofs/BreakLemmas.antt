-- Where the rule of a kind can be broken: nothing else of an operation counts.
use Rattle.std.proofs.Common.{◌≡◌, ℕ, ◌+◌, ◌||◌, Bool, true, false, List, [], ◌∷◌, ap, refl, sym, ◌∙◌, subst}
use Rattle.ir_forms.specs.Ops.{operands_of, written_of, regions_of}
use Rattle.ir_verify.specs.declared.fault.VerifyKind.{VerifyKind}
use Rattle.ir_verify.specs.declared.fault.VerifyKind.TheVariants.{Undefined, Terminator, UnknownFunc, Arity, AsyncInMemref, BlockingAwait}
use Rattle.ir_verify.specs.Breaks.{some_from, some_at, operand_breaks, written_breaks, result_breaks, region_breaks, own_breaks, breaks}
use Rattle.ir_verify.specs.Places.{Spot, types_of}

never : {X : Type 0} → (test : ℕ → X → Bool) → ((i : ℕ) (x : X) → test i x ≡ false) → (k : ℕ) (xs : List X) → some_from test k xs ≡ false
never test none k [] = refl
never test none k (x ∷ xs) = ap (λ b. b || some_from test (k + 1) xs) (none k x) ∙ never test none (k + 1) xs

or_false : (a : Bool) → (a || false) ≡ a
or_false true = refl
or_false false = refl

module _ (s : Spot) where
  pub undefined_is : breaks Undefined s ≡ some_at (operand_breaks Undefined s.seen s.place) (operands_of s.place.op)
  undefined_is =
      ap (λ b. some_at (operand_breaks Undefined s.seen s.place) (operands_of s.place.op) || b)
      (ap (λ b. b || (some_at (result_breaks Undefined s.place) (types_of s.place.op) || some_at (region_breaks Undefined s.place.op) (regions_of s.place.op))) (never (written_breaks Undefined s.place) (λ i x. refl) 0 (written_of s.place.op))
      ∙ ap (λ b. b || some_at (region_breaks Undefined s.place.op) (regions_of s.place.op)) (never (result_breaks Undefined s.place) (λ i x. refl) 0 (types_of s.place.op))
      ∙ never (region_breaks Undefined s.place.op) (λ i x. refl) 0 (regions_of s.place.op))
      ∙ or_false (some_at (operand_breaks Undefined s.seen s.place) (operands_of s.place.op))

  pub terminator_is : breaks Terminator s ≡ (own_breaks Terminator s.place || some_at (region_breaks Terminator s.place.op) (regions_of s.place.op))
  terminator_is = ap (λ b. own_breaks Terminator s.place || b)
      (ap (λ b. b || (some_at (written_breaks Terminator s.place) (written_of s.place.op) || (some_at (result_breaks Terminator s.place) (types_of s.place.op) || some_at (region_breaks Terminator s.place.op) (regions_of s.place.op))))
      (never (operand_breaks Terminator s.seen s.place) (λ i x. refl) 0 (operands_of s.place.op))
      ∙ ap (λ b. b || (some_at (result_breaks Terminator s.place) (types_of s.place.op) || some_at (region_breaks Terminator s.place.op) (regions_of s.place.op))) (never (written_breaks Terminator s.place) (λ i x. refl) 0 (written_of s.place.op))
      ∙ ap (λ b. b || some_at (region_breaks Terminator s.place.op) (regions_of s.place.op)) (never (result_breaks Terminator s.place) (λ i x. refl) 0 (types_of s.place.op)))

  pub arity_is : breaks Arity s ≡ (own_breaks Arity s.place || some_at (region_breaks Arity s.place.op) (regions_of s.place.op))
  arity_is = ap (λ b. own_breaks Arity s.place || b)
      (ap (λ b. b || (some_at (written_breaks Arity s.place) (written_of s.place.op) || (some_at (result_breaks Arity s.place) (types_of s.place.op) || some_at (region_breaks Arity s.place.op) (regions_of s.place.op))))
      (never (operand_breaks Arity s.seen s.place) (λ i x. refl) 0 (operands_of s.place.op))
      ∙ ap (λ b. b || (some_at (result_breaks Arity s.place) (types_of s.place.op) || some_at (region_breaks Arity s.place.op) (regions_of s.place.op))) (never (written_breaks Arity s.place) (λ i x. refl) 0 (written_of s.place.op))
      ∙ ap (λ b. b || some_at (region_breaks Arity s.place.op) (regions_of s.place.op)) (never (result_breaks Arity s.place) (λ i x. refl) 0 (types_of s.place.op)))

  pub unknown_is : breaks UnknownFunc s ≡ own_breaks UnknownFunc s.place
  unknown_is = ap (λ b. own_breaks UnknownFunc s.place || b)
      (ap (λ b. b || (some_at (written_breaks UnknownFunc s.place) (written_of s.place.op) || (some_at (result_breaks UnknownFunc s.place) (types_of s.place.op) || some_at (region_breaks UnknownFunc s.place.op) (regions_of s.place.op))))
      (never (operand_breaks UnknownFunc s.seen s.place) (λ i x. refl) 0 (operands_of s.place.op))
      ∙ ap (λ b. b || (some_at (result_breaks UnknownFunc s.place) (types_of s.place.op) || some_at (region_breaks UnknownFunc s.place.op) (regions_of s.place.op))) (never (written_breaks UnknownFunc s.place) (λ i x. refl) 0 (written_of s.place.op))
      ∙ ap (λ b. b || some_at (region_breaks UnknownFunc s.place.op) (regions_of s.place.op)) (never (result_breaks UnknownFunc s.place) (λ i x. refl) 0 (types_of s.place.op))
      ∙ never (region_breaks UnknownFunc s.place.op) (λ i x. refl) 0 (regions_of s.place.op))
      ∙ or_false (own_breaks UnknownFunc s.place)

  pub blocking_is : breaks BlockingAwait s ≡ own_breaks BlockingAwait s.place
  blocking_is = ap (λ b. own_breaks BlockingAwait s.place || b)
      (ap (λ b. b || (some_at (written_breaks BlockingAwait s.place) (written_of s.place.op) || (some_at (result_breaks BlockingAwait s.place) (types_of s.place.op) || some_at (region_breaks BlockingAwait s.place.op) (regions_of s.place.op))))
      (never (operand_breaks BlockingAwait s.seen s.place) (λ i x. refl) 0 (operands_of s.place.op))
      ∙ ap (λ b. b || (some_at (result_breaks BlockingAwait s.place) (types_of s.place.op) || some_at (region_breaks BlockingAwait s.place.op) (regions_of s.place.op))) (never (written_breaks BlockingAwait s.place) (λ i x. refl) 0 (written_of s.place.op))
      ∙ ap (λ b. b || some_at (region_breaks BlockingAwait s.place.op) (regions_of s.place.op)) (never (result_breaks BlockingAwait s.place) (λ i x. refl) 0 (types_of s.place.op))
      ∙ never (region_breaks BlockingAwait s.place.op) (λ i x. refl) 0 (regions_of s.place.op))
      ∙ or_false (own_breaks BlockingAwait s.place)

  pub async_is : breaks AsyncInMemref s
      ≡ (some_at (written_breaks AsyncInMemref s.place) (written_of s.place.op) || (some_at (result_breaks AsyncInMemref s.place) (types_of s.place.op) || some_at (region_breaks AsyncInMemref s.place.op) (regions_of s.place.op)))
  async_is =
      ap (λ b. b || (some_at (written_breaks AsyncInMemref s.place) (written_of s.place.op) || (some_at (result_breaks AsyncInMemref s.place) (types_of s.place.op) || some_at (region_breaks AsyncInMemref s.place.op) (regions_of s.place.op))))
      (never (operand_breaks AsyncInMemref s.seen s.place) (λ i x. refl) 0 (operands_of s.place.op))

  -- ---- the same for a kind that is known to be this one

  pub from_operands : (kind : VerifyKind) (b : Bool) → kind ≡ Undefined → b ≡ some_at (operand_breaks kind s.seen s.place) (operands_of s.place.op) → b ≡ breaks kind s
  from_operands kind b same is = is ∙ subst (λ (k : VerifyKind). some_at (operand_breaks k s.seen s.place) (operands_of s.place.op) ≡ breaks k s) (sym same) (sym undefined_is)

  pub from_end : (kind : VerifyKind) (b : Bool) → kind ≡ Terminator → b ≡ (own_breaks kind s.place || some_at (region_breaks kind s.place.op) (regions_of s.place.op)) → b ≡ breaks kind s
  from_end kind b same is = is ∙ subst (λ (k : VerifyKind). (own_breaks k s.place || some_at (region_breaks k s.place.op) (regions_of s.place.op)) ≡ breaks k s) (sym same) (sym terminator_is)

  pub from_count : (kind : VerifyKind) (b : Bool) → kind ≡ Arity → b ≡ (own_breaks kind s.place || some_at (region_breaks kind s.place.op) (regions_of s.place.op)) → b ≡ breaks kind s
  from_count kind b same is = is ∙ subst (λ (k : VerifyKind). (own_breaks k s.place || some_at (region_breaks k s.place.op) (regions_of s.place.op)) ≡ breaks k s) (sym same) (sym arity_is)

  pub from_callee : (kind : VerifyKind) (b : Bool) → kind ≡ UnknownFunc → b ≡ own_breaks kind s.place → b ≡ breaks kind s
  from_callee kind b same is = is ∙ subst (λ (k : VerifyKind). own_breaks k s.place ≡ breaks k s) (sym same) (sym unknown_is)

  pub from_await : (kind : VerifyKind) (b : Bool) → kind ≡ BlockingAwait → b ≡ own_breaks kind s.place → b ≡ breaks kind s
  from_await kind b same is = is ∙ subst (λ (k : VerifyKind). own_breaks k s.place ≡ breaks k s) (sym same) (sym blocking_is)

  abbrev pub in_types : VerifyKind → Bool
  in_types kind = some_at (written_breaks kind s.place) (written_of s.place.op) || (some_at (result_breaks kind s.place) (types_of s.place.op) || some_at (region_breaks kind s.place.op) (regions_of s.place.op))

  pub from_types : (kind : VerifyKind) (b : Bool) → kind ≡ AsyncInMemref → b ≡ in_types kind → b ≡ breaks kind s
  from_types kind b same is = is ∙ subst (λ (k : VerifyKind). in_types k ≡ breaks k s) (sym same) (sym async_is)
