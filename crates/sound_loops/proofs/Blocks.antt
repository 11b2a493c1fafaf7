-- The function of a block breaks no rule.
use Rattle.std.proofs.Common.{◌≡◌, ◌≤◌, ℕ, suc, ◌+◌, ◌&&◌, ◌||◌, not, Bool, true, false, List, [], ◌∷◌, ◌++◌, length, Some, refl, sym, ap, ◌∙◌, subst, arith}
use Rattle.std.specs.Prelude.{◌==◌, drop, slice_get}
use Rattle.op_table.specs.declared.kind.OpKind.TheVariants as op
use Rattle.op_table.specs.declared.form.Form.TheVariants.{Binary, Return, TryCall}
use Rattle.op_table.specs.Rows.{row_of}
use Rattle.ir_forms.specs.declared.ops.Attr.TheVariants as attr
use Rattle.ir_forms.specs.declared.ops.Func.{Func}
use Rattle.ir_forms.specs.declared.ops.Op.{Op}
use Rattle.ir_forms.specs.declared.ops.Region.{Region, Region-F, out-Region, roll-Region, out-roll-Region}
use Rattle.ir_forms.specs.declared.ops.ValueNo.{ValueNo}
use Rattle.ir_forms.specs.declared.types.NumTy.TheVariants as num
use Rattle.ir_forms.specs.declared.types.Ty.{Ty}
use Rattle.ir_forms.specs.declared.types.Ty.TheVariants as ty
use Rattle.ir_forms.specs.Ops.{ops_of}
use Rattle.ir_verify.specs.declared.fault.VerifyKind.{VerifyKind}
use Rattle.ir_verify.specs.declared.fault.VerifyKind.TheVariants.{Undefined, Terminator, AsyncInMemref}
use Rattle.ir_verify.specs.Breaks.{last_form, some_at, some_from}
use Rattle.ir_verify.specs.Forms.{ends}
use Rattle.ir_verify.specs.Places.{Around, Seen, in_body, params_of, places_along, places_at, places_in}
use Rattle.ir_verify.specs.Scopes.{lookup}
use Rattle.ir_verify.specs.Verdict.{body_places, func_breaks, param_has_async, type_has_async}
use Rattle.ir_verify.proofs.PlaceLemmas.{places_in-out}
use Rattle.made_ops.specs.declared.insertion.Insertion.{Insertion}
use Rattle.made_ops.specs.declared.insertion.Operand.TheVariants.{Value}
use Rattle.made_ops.specs.Made.{begun, binary, constant, inside, made_op, next_value, truth, type_of}
use Rattle.loop_blocks.specs.declared.making.Course.{Course}
use Rattle.loop_blocks.specs.declared.told.Plan.{Plan}
use Rattle.loop_blocks.specs.declared.told.Told.{Told}
use Rattle.loop_blocks.specs.Made.{Typed, carries, indexes, taken, tries, tries_body, types_in, values_in}
use Rattle.loop_blocks.specs.Blocks.{block_args, block_func, block_func_of, block_ops, block_range, iteration, numbers, shared, told, variables}
use Rattle.sound_laws.specs.Extended.{AreFine}
use Rattle.sound_laws.specs.Made.{AreVisible, Runs, behind}
use Rattle.sound_laws.proofs.Plain.{Is, rolled}
use Rattle.sound_laws.proofs.Making.{HasRow, nothing_more}
use Rattle.sound_loops.specs.Laws.{BlockFuncIsSound, BreaksNothing, HasBody}
use Rattle.sound_loops.specs.Seen.{AllIndex, AreSeen, AreSound, Front, IsSoundType}
use Rattle.sound_loops.proofs.Ends.{along_fine, end_places, last_is, return_is}
use Rattle.sound_loops.proofs.Grows.{Gives, Grows, IsGood, binary_good, constant_good, gives_later, gives_value, grows_on, grows_self}
use Rattle.sound_loops.proofs.Calls.{call_at, try_is}
use Rattle.sound_loops.proofs.Loops.{Turns, carries_good}
use Rattle.sound_loops.proofs.Taking.{IsTaken, IsTold, all_below, all_seen, index_later, indexes_seen, indexes_sound, is_told, seen_later, told_later, told_runs, types_alike}

-- ---- rows

add_row : HasRow op.ArithAddi Binary 2 1
add_row = record { form = refl; operands = refl; results = refl; regions = refl; level = refl }

and_row : HasRow op.ArithAndi Binary 2 1
and_row = record { form = refl; operands = refl; results = refl; regions = refl; level = refl }

divide_row : HasRow op.ArithDivui Binary 2 1
divide_row = record { form = refl; operands = refl; results = refl; regions = refl; level = refl }

least_row : HasRow op.ArithMinui Binary 2 1
least_row = record { form = refl; operands = refl; results = refl; regions = refl; level = refl }

times_row : HasRow op.ArithMuli Binary 2 1
times_row = record { form = refl; operands = refl; results = refl; regions = refl; level = refl }

rest_row : HasRow op.ArithRemui Binary 2 1
rest_row = record { form = refl; operands = refl; results = refl; regions = refl; level = refl }

-- ---- lengths

drop_count : {A : Type 0} (xs : List A) → length xs ≤ suc (length (drop 1 xs))
drop_count [] = omega arith
drop_count (x ∷ xs) = omega arith

drop_index : (s : Seen) (vs : List ValueNo) → AllIndex s vs → AllIndex s (drop 1 vs)
drop_index s [] h = tt
drop_index s (v ∷ vs) h = h.1

module _ (funcs : List Func) (seen : Seen) where
  abbrev now : Insertion → Seen
  now i = behind seen i.ops

  -- ---- the numbers in the dimensions

  record Numbers (i : Insertion) (n : ℕ) (r : (ValueNo × List ValueNo) × Insertion) : Type 0 where
    pub grows : Grows funcs seen i r.1
    pub first : lookup (now r.1) r.0.0.0 ≡ Some ty.Index
    pub others : AllIndex (now r.1) r.0.1
    pub count : length r.0.1 ≡ n

  numbers_good : (ts : List ValueNo) (n : ValueNo) (i : Insertion) → IsGood funcs seen i → AllIndex (now i) ts → lookup (now i) n.0 ≡ Some ty.Index → Numbers i (length ts) (numbers ts n i)
  numbers_good [] n i good hs hn = record { grows = grows_self funcs seen i good; first = hn; others = tt; count = refl }
  numbers_good (t ∷ ts) n i good hs hn =
      let l : (ValueNo × List ValueNo) × Insertion = numbers ts n i in
      let h : Numbers i (length ts) l = numbers_good ts n i good hs.1 hn in
      let a : ValueNo × Insertion = binary op.ArithRemui num.Index (Value l.0.0) (Value t) l.1 in
      let ga : Gives funcs seen ty.Index l.1 a = binary_good funcs seen op.ArithRemui num.Index (Value l.0.0) (Value t) l.1 rest_row h.grows.good h.first (h.grows.keeps t.0 ty.Index hs.0) in
      let ia : Grows funcs seen i a.1 = grows_on funcs seen i l.1 a.1 h.grows ga.grows in
      let b : ValueNo × Insertion = binary op.ArithDivui num.Index (Value l.0.0) (Value t) a.1 in
      let gb : Gives funcs seen ty.Index a.1 b = binary_good funcs seen op.ArithDivui num.Index (Value l.0.0) (Value t) a.1 divide_row ga.grows.good (ga.grows.keeps l.0.0.0 ty.Index h.first) (ia.keeps t.0 ty.Index hs.0) in
      let lb : Grows funcs seen l.1 b.1 = grows_on funcs seen l.1 a.1 b.1 ga.grows gb.grows in
      record {
        grows = grows_on funcs seen i l.1 b.1 h.grows lb;
        first = gb.has;
        others = (gb.grows.keeps a.0.0 ty.Index ga.has, index_later (now l.1) (now b.1) l.0.1 lb.keeps h.others);
        count = ap suc h.count;
      }

  -- ---- the variables

  record Variables (i : Insertion) (n : ℕ) (r : List ValueNo × Insertion) : Type 0 where
    pub grows : Grows funcs seen i r.1
    pub all : AllIndex (now r.1) r.0
    pub count : length r.0 ≡ n

  variables_good : (ls ss ns : List ValueNo) (i : Insertion) → IsGood funcs seen i → AllIndex (now i) ls → AllIndex (now i) ss → AllIndex (now i) ns → length ss ≡ length ls → length ls ≤ length ns → Variables i (length ls) (variables ls ss ns i)
  variables_good [] ss ns i good hl hs hn e le = record { grows = grows_self funcs seen i good; all = tt; count = refl }
  variables_good (l ∷ ls) [] ns i good hl hs hn e le = absurd (omega (arith, e))
  variables_good (l ∷ ls) (s ∷ ss) [] i good hl hs hn e le = absurd (omega (arith, le))
  variables_good (l ∷ ls) (s ∷ ss) (n ∷ ns) i good hl hs hn e le =
      let a : ValueNo × Insertion = binary op.ArithMuli num.Index (Value n) (Value s) i in
      let ga : Gives funcs seen ty.Index i a = binary_good funcs seen op.ArithMuli num.Index (Value n) (Value s) i times_row good hn.0 hs.0 in
      let b : ValueNo × Insertion = binary op.ArithAddi num.Index (Value l) (Value a.0) a.1 in
      let gb : Gives funcs seen ty.Index a.1 b = binary_good funcs seen op.ArithAddi num.Index (Value l) (Value a.0) a.1 add_row ga.grows.good (ga.grows.keeps l.0 ty.Index hl.0) ga.has in
      let ib : Grows funcs seen i b.1 = grows_on funcs seen i a.1 b.1 ga.grows gb.grows in
      let more : List ValueNo × Insertion = variables ls ss ns b.1 in
      let h : Variables b.1 (length ls) more =
      variables_good ls ss ns b.1 gb.grows.good (index_later (now i) (now b.1) ls ib.keeps hl.1) (index_later (now i) (now b.1) ss ib.keeps hs.1) (index_later (now i) (now b.1) ns ib.keeps hn.1) (omega (arith, e)) (omega (arith, le)) in
      record {
        grows = grows_on funcs seen i b.1 more.1 ib h.grows;
        all = (h.grows.keeps b.0.0 ty.Index gb.has, h.all);
        count = ap suc h.count;
      }

  -- ---- one iteration

  module _ (p : Plan) (has : HasBody funcs p) where
    pub tries_good : (captured : Typed) (vs : List ValueNo) (ok : ValueNo) (i : Insertion) → IsGood funcs seen i → AllIndex (now i) vs → length vs ≡ length p.lowers → AreSeen (now i) captured → AreSound captured → types_in captured ≡ types_in p.captured
        → lookup (now i) ok.0 ≡ Some (type_of truth) → Gives funcs seen (type_of truth) i (tries_body p.body captured vs ok i)
    unfolding tries_body
    tries_good captured vs ok i good all count visible sound types known =
        let args : Typed = indexes vs ++ captured in
        let a : ValueNo × Insertion = tries p.body args i in
        let takes : types_in has.body.params ≡ types_in args = has.takes ∙ sym (types_alike vs p.lowers captured p.captured count types) in
        let ga : Gives funcs seen (type_of truth) i a =
        gives_value funcs seen i op.AioTryCall (values_in args) (types_in args) (type_of truth) (attr.Callee p.body) good
        (λ o is. call_at funcs (now i) op.AioTryCall TryCall try_is o p.body args (next_value i) is has.body has.there takes (indexes_seen (now i) vs captured all visible) (indexes_sound vs captured sound)
        (λ q e. refl) (ap (λ (ts : List Ty). not (length ts == 0)) has.gives) (λ q e. refl)) in
        gives_later funcs seen (type_of truth) i a.1 (binary op.ArithAndi truth (Value ok) (Value a.0) a.1) ga.grows
        (binary_good funcs seen op.ArithAndi truth (Value ok) (Value a.0) a.1 and_row ga.grows.good (ga.grows.keeps ok.0 (type_of truth) known) ga.has)

    iteration_good : (t : Told) (n ok : ValueNo) (i : Insertion) → IsGood funcs seen i → IsTold (now i) p t → lookup (now i) n.0 ≡ Some ty.Index → lookup (now i) ok.0 ≡ Some (type_of truth) → Gives funcs seen (type_of truth) i (iteration p.body t n ok i)
    unfolding iteration
    iteration_good t n ok i good is hn hk =
        let a : (ValueNo × List ValueNo) × Insertion = numbers (drop 1 t.turns) n i in
        let ha : Numbers i (length (drop 1 t.turns)) a = numbers_good (drop 1 t.turns) n i good (drop_index (now i) t.turns is.turns) hn in
        let told_a : IsTold (now a.1) p t = told_later (now i) (now a.1) p t ha.grows.keeps is in
        let enough : length t.lowers ≤ suc (length a.0.1) = let d : length t.turns ≤ suc (length (drop 1 t.turns)) = drop_count t.turns in omega (arith, d, ha.count, is.lowers_count, is.turns_count) in
        let b : List ValueNo × Insertion = variables t.lowers t.steps (a.0.0 ∷ a.0.1) a.1 in
        let hb : Variables a.1 (length t.lowers) b = variables_good t.lowers t.steps (a.0.0 ∷ a.0.1) a.1 ha.grows.good told_a.lowers told_a.steps (ha.first, ha.others) (is.steps_count ∙ sym is.lowers_count) enough in
        let ib : Grows funcs seen i b.1 = grows_on funcs seen i a.1 b.1 ha.grows hb.grows in
        gives_later funcs seen (type_of truth) i b.1 (tries_body p.body t.captured b.0 ok b.1) ib
        (tries_good t.captured b.0 ok b.1 hb.grows.good hb.all (hb.count ∙ is.lowers_count) (seen_later (now i) (now b.1) t.captured ib.keeps is.captured) is.sound is.types (ib.keeps ok.0 (type_of truth) hk))

module _ (funcs : List Func) (seen : Seen) (p : Plan) (has : HasBody funcs p) where
  abbrev at : Insertion → Seen
  at i = behind seen i.ops

  -- ---- the numbers of a block

  record Ranges (i : Insertion) (r : Course × Insertion) : Type 0 where
    pub grows : Grows funcs seen i r.1
    pub lower : lookup (at r.1) r.0.lower.0 ≡ Some ty.Index
    pub upper : lookup (at r.1) r.0.upper.0 ≡ Some ty.Index
    pub step : lookup (at r.1) r.0.step.0 ≡ Some ty.Index
    pub first : lookup (at r.1) r.0.first.0 ≡ Some (type_of truth)

  range_good : (block : ValueNo) (t : Told) (i : Insertion) → IsGood funcs seen i → IsTold (at i) p t → lookup (at i) block.0 ≡ Some ty.Index → Ranges i (block_range block t i)
  range_good block t i good is hb =
      let a : ValueNo × Insertion = binary op.ArithMuli num.Index (Value block) (Value t.size) i in
      let ga : Gives funcs seen ty.Index i a = binary_good funcs seen op.ArithMuli num.Index (Value block) (Value t.size) i times_row good hb is.size in
      let b : ValueNo × Insertion = binary op.ArithAddi num.Index (Value a.0) (Value t.size) a.1 in
      let gb : Gives funcs seen ty.Index a.1 b = binary_good funcs seen op.ArithAddi num.Index (Value a.0) (Value t.size) a.1 add_row ga.grows.good ga.has (ga.grows.keeps t.size.0 ty.Index is.size) in
      let ib : Grows funcs seen i b.1 = grows_on funcs seen i a.1 b.1 ga.grows gb.grows in
      let c : ValueNo × Insertion = binary op.ArithMinui num.Index (Value b.0) (Value t.trip) b.1 in
      let gc : Gives funcs seen ty.Index b.1 c = binary_good funcs seen op.ArithMinui num.Index (Value b.0) (Value t.trip) b.1 least_row gb.grows.good gb.has (ib.keeps t.trip.0 ty.Index is.trip) in
      let d : ValueNo × Insertion = constant num.Index 1 c.1 in
      let gd : Gives funcs seen ty.Index c.1 d = constant_good funcs seen num.Index 1 c.1 gc.grows.good in
      let e : ValueNo × Insertion = constant truth 1 d.1 in
      let ge : Gives funcs seen (type_of truth) d.1 e = constant_good funcs seen truth 1 d.1 gd.grows.good in
      let ce : Grows funcs seen c.1 e.1 = grows_on funcs seen c.1 d.1 e.1 gd.grows ge.grows in
      let be : Grows funcs seen b.1 e.1 = grows_on funcs seen b.1 c.1 e.1 gc.grows ce in
      let ae : Grows funcs seen a.1 e.1 = grows_on funcs seen a.1 b.1 e.1 gb.grows be in
      record {
        grows = grows_on funcs seen i a.1 e.1 ga.grows ae;
        lower = ae.keeps a.0.0 ty.Index ga.has;
        upper = ce.keeps c.0.0 ty.Index gc.has;
        step = ge.grows.keeps d.0.0 ty.Index gd.has;
        first = ge.has;
      }

  -- what a block does up to the return
  pub block_good : (block : ValueNo) (t : Told) (i : Insertion) → IsGood funcs seen i → IsTold (at i) p t → lookup (at i) block.0 ≡ Some ty.Index →
      Gives funcs seen (type_of truth) i (carries (block_range block t i).0 (iteration p.body t) (block_range block t i).1)
  block_good block t i good is hb =
      let a : Course × Insertion = block_range block t i in
      let ha : Ranges i a = range_good block t i good is hb in
      let told_a : IsTold (at a.1) p t = told_later (at i) (at a.1) p t ha.grows.keeps is in
      let turns : Turns funcs seen a.1 (iteration p.body t) = λ v w s j keeps inner hv hw.
      iteration_good funcs s p has t v w (inside j) inner (told_later (at a.1) s p t keeps told_a) hv hw in
      gives_later funcs seen (type_of truth) i a.1 (carries a.0 (iteration p.body t) a.1) ha.grows
      (carries_good funcs seen a.0 (iteration p.body t) a.1 ha.grows.good ha.lower ha.upper ha.step ha.first turns)

-- ---- the function

no_async : (k : ℕ) (ps : Typed) → AreSound ps → some_from param_has_async k ps ≡ false
no_async k [] h = refl
no_async k (q ∷ ps) h = ap (λ b. b || some_from param_has_async (k + 1) ps) h.0.cells ∙ no_async (k + 1) ps h.1

module _ (funcs : List Func) (p : Plan) (has : HasBody funcs p) (sound : AreSound p.captured) where
  abbrev block : ValueNo × Insertion
  block = taken (begun p.at 0)

  abbrev given : Told × Insertion
  given = told p block.1

  abbrev params : Typed
  params = block_args block.0 given.0

  runs : IsTaken block.1 given.1 (values_in (shared given.0))
  runs = told_runs p block.1

  run_on : Runs 0 given.1.free (values_in params)
  run_on = (refl, runs.runs)

  seen_all : AreSeen params params
  seen_all = all_seen 0 given.1.free params run_on

  is : IsTold params p given.0
  is = is_told params p block.1 sound seen_all.1

  begins : (os : List Op) → os ≡ [] → given.1.ops ≡ os → IsGood funcs params given.1
  begins os none same = record {
    made = subst (Front funcs params) (sym (same ∙ none)) tt;
    bounded = λ v t found. all_below 0 given.1.free params run_on v t (subst (λ (ps : List Op). lookup (behind params ps) v ≡ Some t) (same ∙ none) found);
    known = subst (AreVisible (behind params given.1.ops)) (sym runs.known) tt;
  }

  good : IsGood funcs params given.1
  good = begins [] refl runs.ops

  here : behind params given.1.ops ≡ params
  here = ap (λ (ps : List Op). behind params ps) runs.ops

  abbrev made : ValueNo × Insertion
  made = carries (block_range block.0 given.0 given.1).0 (iteration p.body given.0) (block_range block.0 given.0 given.1).1

  gives : Gives funcs params (type_of truth) given.1 made
  gives = block_good funcs params p has block.0 given.0 given.1 good (subst (λ (s : Seen). IsTold s p given.0) (sym here) is) (subst (λ (s : Seen). lookup s block.0.0 ≡ Some ty.Index) (sym here) seen_all.0)

  abbrev last : Op
  last = made_op op.FuncReturn (made.0 ∷ []) (type_of truth ∷ []) [] [] attr.None [] made.1

  last_so : Is last op.FuncReturn (made.0 ∷ []) (type_of truth ∷ []) [] [] attr.None []
  last_so = rolled op.FuncReturn made.1.at (made.0 ∷ []) (type_of truth ∷ []) [] [] attr.None []

  abbrev layer : Region-F Op Region
  layer = record { params = []; ops = made.1.ops ++ last ∷ [] }

  body_is : (block_func p).body ≡ roll-Region layer
  unfolding block_func_of block_ops
  body_is = refl

  params_are : (block_func p).params ≡ params
  unfolding block_func_of
  params_are = refl

  results_are : (block_func p).results ≡ type_of truth ∷ []
  unfolding block_func_of
  results_are = refl

  whole : (f : Func) → f.body ≡ roll-Region layer → f.params ≡ params → f.results ≡ type_of truth ∷ [] → (is_called : Bool) → AreFine (body_places funcs f is_called)
  whole f body heads results is_called =
      let a : Around = in_body f is_called in
      let end : AreFine (places_at funcs last a (behind params made.1.ops) true) =
      end_places funcs op.FuncReturn Return return_is last made.0 truth last_so a (behind params made.1.ops) refl (ap (λ (ts : List Ty). slice_get ts 0) results) (ap (λ (ts : List Ty). length ts) results) gives.has in
      let along : AreFine (places_along funcs (made.1.ops ++ last ∷ []) a params) = along_fine funcs made.1.ops last a params gives.grows.good.made end in
      let opened : out-Region (roll-Region layer) ≡ layer = out-roll-Region layer in
      let inner : AreFine (places_along funcs (ops_of (roll-Region layer)) a (params ++ params_of (roll-Region layer))) =
      subst (λ (l : Region-F Op Region). AreFine (places_along funcs l.ops a (params ++ l.params))) (sym opened) (subst (λ (s : Seen). AreFine (places_along funcs (made.1.ops ++ last ∷ []) a s)) (sym (nothing_more params)) along) in
      subst (λ (r : Region). AreFine (places_in funcs r a f.params)) (sym body)
      (subst (λ (s : Seen). AreFine (places_in funcs (roll-Region layer) a s)) (sym heads)
      (subst AreFine (sym (places_in-out funcs (roll-Region layer) a params)) inner))

  params_sound : AreSound params
  params_sound =
      let index : IsSoundType ty.Index = record { same = refl; cells = refl } in (
        index,
        (
          index,
          (
            index,
            indexes_sound given.0.lowers (indexes given.0.steps ++ (indexes given.0.turns ++ given.0.captured))
                (indexes_sound given.0.steps (indexes given.0.turns ++ given.0.captured) (indexes_sound given.0.turns given.0.captured is.sound)),
          ),
        ),
      )

  head_so : (f : Func) → f.body ≡ roll-Region layer → f.params ≡ params → f.results ≡ type_of truth ∷ [] → (kind : VerifyKind) (k : ℕ) → (kind ≡ Undefined → ⊥) → func_breaks kind funcs k f ≡ false
  head_so f body heads results Undefined k other = absurd (other refl)
  head_so f body heads results Terminator k other =
      let opened : ops_of f.body ≡ made.1.ops ++ last ∷ [] = ap ops_of body ∙ ap (λ (l : Region-F Op Region). l.ops) (out-roll-Region layer) in
      ap (λ (os : List Op). true && not (ends Return (last_form os))) opened
      ∙ ap (λ g. true && not (ends Return g)) (last_is made.1.ops last ∙ ap (λ z. (row_of z).form) last_so.kind)
  head_so f body heads results AsyncInMemref k other =
      ap (λ (ps : Typed). some_at param_has_async ps || some_at type_has_async f.results) heads
      ∙ ap (λ b. b || some_at type_has_async f.results) (no_async 0 params params_sound)
      ∙ ap (λ (ts : List Ty). some_at type_has_async ts) results
  head_so f body heads results kind k other = refl

  pub block_sound : BreaksNothing funcs (block_func p)
  block_sound = record { body = whole (block_func p) body_is params_are results_are; head = head_so (block_func p) body_is params_are results_are }

pub block_func_is_sound : BlockFuncIsSound
block_func_is_sound funcs p has sound = block_sound funcs p has sound
