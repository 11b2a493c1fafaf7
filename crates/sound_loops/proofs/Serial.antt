-- The serial loops that stand in a parallel loop's place break nothing.
use Rattle.std.proofs.Common.{◌≡◌, ℕ, suc, ◌+◌, List, [], ◌∷◌, ◌++◌, length, Some, refl, ap, arith}
use Rattle.ir_forms.specs.declared.ops.Func.{Func}
use Rattle.ir_forms.specs.declared.ops.ValueNo.{ValueNo}
use Rattle.ir_forms.specs.declared.types.Ty.TheVariants as ty
use Rattle.ir_verify.specs.Places.{Seen}
use Rattle.ir_verify.specs.Scopes.{lookup}
use Rattle.made_ops.specs.declared.insertion.Insertion.{Insertion}
use Rattle.made_ops.specs.Made.{Makes, asserts, begun, constant, inside, truth, type_of}
use Rattle.loop_blocks.specs.declared.told.Plan.{Plan}
use Rattle.loop_blocks.specs.Made.{course, message}
use Rattle.loop_blocks.specs.Loops.{nested, serial_loop}
use Rattle.sound_laws.specs.Made.{behind}
use Rattle.sound_loops.specs.Laws.{HasBody, HasOperands, SerialLoopIsFine}
use Rattle.sound_loops.specs.Seen.{AllIndex, AreSeen, AreSound}
use Rattle.sound_loops.proofs.Grows.{Gives, Grows, IsGood, asserts_good, constant_good, grows_on}
use Rattle.sound_loops.proofs.Loops.{Turns, carries_good}
use Rattle.sound_loops.proofs.Taking.{index_later, seen_later}
use Rattle.sound_loops.proofs.Blocks.{tries_good}

one_more : (s : Seen) (vs : List ValueNo) (v : ValueNo) → AllIndex s vs → lookup s v.0 ≡ Some ty.Index → AllIndex s (vs ++ v ∷ [])
one_more s [] v h is = (is, tt)
one_more s (w ∷ vs) v h is = (h.0, one_more s vs v h.1 is)

one_longer : (vs : List ValueNo) (v : ValueNo) → length (vs ++ v ∷ []) ≡ suc (length vs)
one_longer [] v = refl
one_longer (w ∷ vs) v = ap suc (one_longer vs v)

module _ (funcs : List Func) (p : Plan) (has : HasBody funcs p) (sound : AreSound p.captured) where
  last_good : (seen : Seen) (vs : List ValueNo) (ok : ValueNo) (i : Insertion) → IsGood funcs seen i → AllIndex (behind seen i.ops) vs → length vs ≡ length p.lowers → AreSeen (behind seen i.ops) p.captured
      → lookup (behind seen i.ops) ok.0 ≡ Some (type_of truth) → Gives funcs seen (type_of truth) i (nested p.body p.captured [] [] [] vs ok i)
  last_good seen vs ok i good all count captured known = tries_good funcs seen p has p.captured vs ok i good all count captured sound refl known

  -- the loops over the dimensions that are left
  nested_good : (ls us ss vs : List ValueNo) (ok : ValueNo) (seen : Seen) (i : Insertion) → IsGood funcs seen i → AllIndex (behind seen i.ops) ls → AllIndex (behind seen i.ops) us → AllIndex (behind seen i.ops) ss → AllIndex (behind seen i.ops) vs
      → length us ≡ length ls → length ss ≡ length ls → length vs + length ls ≡ length p.lowers → AreSeen (behind seen i.ops) p.captured → lookup (behind seen i.ops) ok.0 ≡ Some (type_of truth)
      → Gives funcs seen (type_of truth) i (nested p.body p.captured ls us ss vs ok i)
  nested_good [] us ss vs ok seen i good hl hu hs hv eu es count captured known = let all : length vs ≡ length p.lowers = omega (arith, count) in last_good seen vs ok i good hv all captured known
  nested_good (l ∷ ls) [] ss vs ok seen i good hl hu hs hv eu es count captured known = absurd (omega (arith, eu))
  nested_good (l ∷ ls) (u ∷ us) [] vs ok seen i good hl hu hs hv eu es count captured known = absurd (omega (arith, es))
  nested_good (l ∷ ls) (u ∷ us) (s ∷ ss) vs ok seen i good hl hu hs hv eu es count captured known =
      let turn : ValueNo → ValueNo → Makes ValueNo = λ v. nested p.body p.captured ls us ss (vs ++ v ∷ []) in
      let turns : Turns funcs seen i turn = λ v w more j keeps inner here told.
      nested_good ls us ss (vs ++ v ∷ []) w more (inside j) inner (index_later (behind seen i.ops) more ls keeps hl.1) (index_later (behind seen i.ops) more us keeps hu.1) (index_later (behind seen i.ops) more ss keeps hs.1)
      (one_more more vs v (index_later (behind seen i.ops) more vs keeps hv) here) (omega (arith, eu)) (omega (arith, es)) (let longer : length (vs ++ v ∷ []) ≡ suc (length vs) = one_longer vs v in omega (arith, longer, count))
      (seen_later (behind seen i.ops) more p.captured keeps captured) told in
      carries_good funcs seen (course l u s ok) turn i good hl.0 hu.0 hs.0 known turns

  pub serial_good : (seen : Seen) (free : ℕ) → HasOperands seen free p → Grows funcs seen (begun p.at free) (serial_loop p (begun p.at free))
  serial_good seen free h =
      let i : Insertion = begun p.at free in
      let good : IsGood funcs seen i = record { made = tt; bounded = h.below; known = tt } in
      let a : ValueNo × Insertion = constant truth 1 i in
      let ga : Gives funcs seen (type_of truth) i a = constant_good funcs seen truth 1 i good in
      let now : Seen = behind seen a.1.ops in
      let b : ValueNo × Insertion = nested p.body p.captured p.lowers p.uppers p.steps [] a.0 a.1 in
      let gb : Gives funcs seen (type_of truth) a.1 b =
      nested_good p.lowers p.uppers p.steps [] a.0 seen a.1 ga.grows.good (index_later seen now p.lowers ga.grows.keeps h.lowers) (index_later seen now p.uppers ga.grows.keeps h.uppers) (index_later seen now p.steps ga.grows.keeps h.steps)
      tt h.uppers_count h.steps_count (omega arith) (seen_later seen now p.captured ga.grows.keeps h.captured) ga.has in
      let ab : Grows funcs seen i b.1 = grows_on funcs seen i a.1 b.1 ga.grows gb.grows in
      grows_on funcs seen i b.1 (asserts message b.0 b.1) ab (asserts_good funcs seen message b.0 b.1 gb.grows.good gb.has)

pub serial_loop_is_fine : SerialLoopIsFine
serial_loop_is_fine funcs seen free p has sound h = (serial_good funcs p has sound seen free h).good.made
