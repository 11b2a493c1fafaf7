-- Where tasks land that go to a block.
use Rattle.std.proofs.Common.{◌≡◌, ◌<◌, ℕ, zero, suc, ◌+◌, cond, Bool, true, false, List, [], ◌∷◌, ◌++◌, map, length, Option, Some, None, refl, sym, ap, ◌∙◌, subst, arith}
use Rattle.std.specs.Prelude.{slice_get}
use Rattle.op_table.specs.declared.kind.OpKind.TheVariants as op
use Rattle.ir_forms.specs.declared.runs.FuncNo.{FuncNo}
use Rattle.ir_forms.specs.declared.runs.ObjNo.{ObjNo}
use Rattle.low_forms.specs.declared.code.Block.{Block}
use Rattle.low_forms.specs.declared.code.BlockNo.{BlockNo}
use Rattle.low_forms.specs.declared.code.Instr.{Instr}
use Rattle.low_forms.specs.declared.code.LowFunc.{LowFunc}
use Rattle.low_forms.specs.declared.code.LowKind.TheVariants.{Await}
use Rattle.low_forms.specs.declared.code.LowModule.{LowModule}
use Rattle.low_forms.specs.declared.code.Reg.{Reg}
use Rattle.low_forms.specs.declared.code.Target.{Target}
use Rattle.low_forms.specs.declared.code.Term.{Term}
use Rattle.low_forms.specs.Edges.{blocks_of, edges}
use Rattle.low_forms.specs.Numbers.{regs_within}
use Rattle.low_forms.specs.Owns.{params_of}
use Rattle.low_forms.specs.Places.{Remaining, remaining_of}
use Rattle.low_forms.specs.WellFormed.{IsWellFormed}
use Rattle.async_objects.specs.declared.kinds.Val.{Val}
use Rattle.async_objects.specs.declared.kinds.Val.TheVariants as val
use Rattle.async_objects.specs.declared.object.Object.{Object}
use Rattle.task_stack.specs.declared.frames.Frame.{Frame}
use Rattle.task_stack.specs.declared.frames.Place.{Place}
use Rattle.task_stack.specs.declared.frames.Saved.TheVariants.{Nothing}
use Rattle.task_stack.specs.Registers.{held, bind}
use Rattle.task_stack.specs.Frames.{Stack, Way, into, went}
use Rattle.step_core.specs.declared.tasks.Task.{Task}
use Rattle.step_core.specs.State.{ready}
use Rattle.coro_lower.specs.declared.label.End.{End}
use Rattle.coro_lower.specs.declared.label.End.TheVariants as end
use Rattle.coro_lower.specs.declared.label.Label.{Label}
use Rattle.coro_lower.specs.declared.label.Label.TheVariants.{Body, Next, SetsError}
use Rattle.coro_lower.specs.Layout.{awaiting, end_of, layout, place}
use Rattle.coro_lower.specs.Rows.{row, called}
use Rattle.coro_lower.specs.Shape as shape
use Rattle.coro_lower.specs.Shape.{jump, term_of, before_end, awaited_at, loads, params_left, instrs_of, body, next, label_block, lowered}
use Rattle.coro_laws.specs.Half.{is_emptied, IsHalfLowered}
use Rattle.coro_laws.proofs.Awaiting.{body_in, next_in, AwaitsAt, edges_at, parts_at, edge_inside, awaiting_from, go_edge, one_go, go_inside, awaiting_is}
use Rattle.coro_laws.proofs.Edging.{none_start}
use Rattle.coro_laws.proofs.Labels.{place_there}
use Rattle.coro_laws.proofs.OneEdge.{EdgeAt}
use Rattle.register_laws.proofs.Lists.{mapped_there}
use Rattle.register_laws.proofs.Good.{Parts}
use Rattle.plain_carry.specs.Alike.{AlikeVal, AllAlike, AllBelow}
use Rattle.coro_carry.specs.Relation.{View, Data, Above, Below, remains, AllWait, AtRow, AtFailure, AtLoad, Lands, at_row, at_failure, at_load}
use Rattle.coro_carry.proofs.Lists.{all_below}
use Rattle.coro_carry.proofs.Frames.{data_bound}

-- no values are bound
pub bind_none : (rs : List Reg) (regs : List Val) → bind rs [] regs ≡ regs
bind_none [] regs = refl
bind_none (x ∷ rs) regs = refl

abbrev pub block_no : ℕ → BlockNo
block_no c = record { 0 = c }

-- the way of the first code to the block of a label
abbrev pub way_to : LowFunc → Label → Way
way_to f l = into (lowered f) (block_no (place f l))

module _ (code : LowModule) (f : LowFunc) (well : IsWellFormed code f) (half : IsHalfLowered f) where
  -- ---- which blocks awaits lead to

  pub awaited_by : (k a c m : ℕ) (b : Block) → slice_get f.blocks k ≡ Some b → slice_get (blocks_of b.term.targets) a ≡ Some c → awaiting f c ≡ Some m → b.term.instr.kind ≡ Await
  awaited_by k a c m b at leads is =
      let w : AwaitsAt f m c = awaiting_from code f well half c m (edge_inside code f well half k b at a c leads) is in
      let mine : EdgeAt (edges f) k a c = ap (λ es. slice_get es a) (edges_at code f well half k b at) ∙ leads in
      let same : m ≡ k = (one_go code f well half m c w m 0 k a (go_edge code f well half m c w) mine).0 in
      let both : Some w.block ≡ Some b = sym w.at ∙ ap (slice_get f.blocks) same ∙ at in
      let one : w.block ≡ b = cc in
      subst (λ (x : Block). x.term.instr.kind ≡ Await) one w.kind

  -- a block to which an edge of a block leads that doesn't end with an await
  pub not_awaited : (k a c : ℕ) (b : Block) → slice_get f.blocks k ≡ Some b → (b.term.instr.kind ≡ Await → ⊥) → slice_get (blocks_of b.term.targets) a ≡ Some c → awaiting f c ≡ None
  not_awaited k a c b at other leads = by (awaiting f c) refl
    where
      by : (o : Option ℕ) → awaiting f c ≡ o → awaiting f c ≡ None
      by None is = is
      by (Some m) is = absurd (other (awaited_by k a c m b at leads is))

  -- the block to which an await goes where what it awaits has failed
  pub failed_not_awaited : (k c : ℕ) (b : Block) → slice_get f.blocks k ≡ Some b → slice_get (blocks_of b.term.targets) 1 ≡ Some c → awaiting f c ≡ None
  failed_not_awaited k c b at leads = by (awaiting f c) refl
    where
      by : (o : Option ℕ) → awaiting f c ≡ o → awaiting f c ≡ None
      by None is = is
      by (Some m) is =
          let w : AwaitsAt f m c = awaiting_from code f well half c m (edge_inside code f well half k b at 1 c leads) is in
          let mine : EdgeAt (edges f) k 1 c = ap (λ es. slice_get es 1) (edges_at code f well half k b at) ∙ leads in
          let same : ◌≡◌ {A = ℕ} 0 1 = (one_go code f well half m c w m 0 k 1 (go_edge code f well half m c w) mine).1 in
          absurd (omega (arith, same))

  pub start_not_awaited : 0 < length f.blocks → awaiting f 0 ≡ None
  start_not_awaited some = by (awaiting f 0) refl
    where
      by : (o : Option ℕ) → awaiting f 0 ≡ o → awaiting f 0 ≡ None
      by None is = is
      by (Some m) is = absurd (none_start code f well half m 0 (go_edge code f well half m 0 (awaiting_from code f well half 0 m some is)))

  -- ---- blocks of labels

  pub body_stands : (c : ℕ) (b : Block) → slice_get f.blocks c ≡ Some b → slice_get (lowered f).blocks (place f (Body c)) ≡ Some (body f c (Some b))
  body_stands c b at = mapped_there (label_block f) (layout f) (place f (Body c)) (Body c) (place_there f (Body c) (body_in f c b at)) ∙ ap (λ (o : Option Block). Some (body f c o)) at

  pub next_stands : (k j : ℕ) (b c : Block) → f.coroutine ≡ true → (w : AwaitsAt f k j) → slice_get f.blocks k ≡ Some b → slice_get f.blocks j ≡ Some c → slice_get (lowered f).blocks (place f (Next k)) ≡ Some (next f k (Some b))
  next_stands k j b c task w at to =
      mapped_there (label_block f) (layout f) (place f (Next k)) (Next k) (place_there f (Next k) (next_in f j k c to task (awaiting_is code f well half k j w)))
      ∙ ap (λ (o : Option Block). Some (next f k o)) at

  -- ---- landing

  kept_instrs : (e : End) (c : ℕ) (b : Block) → is_emptied e ≡ false → instrs_of e f c b ≡ loads f (awaiting f c) b.params ++ map called b.instrs ++ before_end e f c b.term.instr.operands
  kept_instrs end.Stays c b is = refl
  kept_instrs end.Waits c b is = refl
  kept_instrs end.Suspends c b is = refl
  kept_instrs end.Gives c b is = refl
  kept_instrs end.Fails c b is = cc

  failing : (e : End) (c : ℕ) (b : Block) → is_emptied e ≡ true → (instrs_of e f c b ≡ []) × (term_of e f c b.term ≡ jump f SetsError)
  failing end.Stays c b is = cc
  failing end.Waits c b is = cc
  failing end.Suspends c b is = cc
  failing end.Gives c b is = cc
  failing end.Fails c b is = (refl, refl)

  module _ (V : View) (t c : ℕ) (b : Block) (at : slice_get f.blocks c ≡ Some b) (root : Bool) (frame frame' : Frame) (below below' : List Frame)
      (saved : frame.saved ≡ Nothing) (func : slice_get code.funcs frame'.current.place.func.0 ≡ Some f) (same : frame.current.place.func ≡ frame'.current.place.func) (waits : AllWait code V t below below') where
    -- the tasks, where the working frames take these values
    abbrev pub task_to : List Val → Task
    task_to vs = ready (record { is_root = root; top = went (way_to f (Body c)) vs frame; below = below })

    abbrev pub task_to' : List Val → Task
    task_to' ws = ready (record { is_root = root; top = went (into f (block_no c)) ws frame'; below = below' })

    abbrev rest : Remaining
    rest = record { instrs = b.instrs; term = b.term }

    abbrev pub e : End
    e = end_of f b

    params : (way_to f (Body c)).regs ≡ params_left (awaiting f c) b.params
    params = ap params_of (body_stands c b at)

    params' : (into f (block_no c)).regs ≡ b.params
    params' = ap params_of at

    above : Above code (task_to' []).stack.top.current.place f b rest
    above = record { func = func; block = at; here = refl }

    few : AllBelow (length f.regs) b.params
    few = all_below (length f.regs) b.params (parts_at code f well half c b at).params

    stood : Below (task_to []).stack.top.current.place (task_to' []).stack.top.current.place f (record { instrs = instrs_of e f c b; term = term_of e f c b.term })
    stood = record { func = same; here = ap (λ (o : Option Block). remaining_of o 0) (body_stands c b at) }

    -- with values that are alike, at a block to which no await leads
    pub lands_at : awaiting f c ≡ None → (vs ws : List Val) → AllAlike V.stands V.refs vs ws → Data V t f frame.current.regs frame'.current.regs → Lands code V t (task_to vs) (task_to' ws)
    lands_at none vs ws alike d = by (is_emptied e) refl
      where
        both : Data V t f (bind (way_to f (Body c)).regs vs frame.current.regs) (bind (into f (block_no c)).regs ws frame'.current.regs)
        both =
            subst (λ (xs : List Reg). Data V t f (bind xs vs frame.current.regs) (bind (into f (block_no c)).regs ws frame'.current.regs)) (sym (params ∙ ap (λ (o : Option ℕ). params_left o b.params) none))
            (subst (λ (xs : List Reg). Data V t f (bind b.params vs frame.current.regs) (bind xs ws frame'.current.regs)) (sym params') (data_bound f V t b.params vs ws frame.current.regs frame'.current.regs few alike d))

        by : (x : Bool) → is_emptied e ≡ x → Lands code V t (task_to vs) (task_to' ws)
        by true is = at_failure (record {
          func = f;
          block = b;
          rest = rest;
          above = record { func = func; block = at; here = refl };
          fails = is;
          below = record {
            func = same;
            here = stood.here ∙ ap (λ (xs : List Instr). let m : Remaining = record { instrs = xs; term = term_of e f c b.term } in Some m) (failing e c b is).0
                ∙ ap (λ (x : Term). let m : Remaining = record { instrs = []; term = x } in Some m) (failing e c b is).1;
          };
          objects = both.objects;
          saved = saved;
          ready = refl;
          under = record { root = refl; frames = waits };
        })
        by false is = at_row (record {
          func = f;
          block = b;
          rest = rest;
          row = record {
            above = record { func = func; block = at; here = refl };
            stays = is;
            below = record {
              func = same;
              here = stood.here
                  ∙ ap (λ (xs : List Instr). let m : Remaining = record { instrs = xs; term = term_of e f c b.term } in Some m) (kept_instrs e c b is ∙ ap (λ (o : Option ℕ). loads f o b.params ++ map called b.instrs ++ before_end e f c b.term.instr.operands) none);
            };
          };
          both = both;
          saved = saved;
          ready = refl;
          under = record { root = refl; frames = waits };
        })

    -- where an await goes on: with the value that is loaded, if the block takes one
    pub record Loadable (v : Val) (ws : List Val) : Type 0 where
      pub object : ObjNo
      pub holds : v ≡ val.Object object
      pub face : Object
      pub there : slice_get V.faces object.0 ≡ Some face
      pub value : Val
      pub value' : Val
      pub payload : face.payload ≡ Some value
      pub alike : AlikeVal V.stands V.refs value value'
      pub one : ws ≡ value' ∷ []

    regs_stay : bind (way_to f (Body c)).regs [] frame.current.regs ≡ frame.current.regs
    regs_stay = bind_none (way_to f (Body c)).regs frame.current.regs

    abbrev rows : Option ℕ → List Reg → Remaining
    rows o ps = record { instrs = loads f o ps ++ map called b.instrs ++ before_end e f c b.term.instr.operands; term = term_of e f c b.term }

    pub lands_go : (m : ℕ) → awaiting f c ≡ Some m → (q : Reg) → awaited_at (slice_get f.blocks m) ≡ q ∷ [] → (ws : List Val) → Data V t f frame.current.regs frame'.current.regs →
        ((r : Reg) (rs : List Reg) → b.params ≡ r ∷ rs → Loadable (held frame.current.regs q.0) ws) → Lands code V t (task_to []) (task_to' ws)
    lands_go m is q one ws d value = by (is_emptied e) refl
      where
        by_params : (ps : List Reg) → b.params ≡ ps → is_emptied e ≡ false → Lands code V t (task_to []) (task_to' ws)
        by_params [] ps stays = at_row (record {
          func = f;
          block = b;
          rest = rest;
          row = record {
            above = record { func = func; block = at; here = refl };
            stays = stays;
            below = record {
              func = same;
              here = stood.here
                  ∙ ap (λ (xs : List Instr). let y : Remaining = record { instrs = xs; term = term_of e f c b.term } in Some y) (kept_instrs e c b stays)
                  ∙ ap (λ (o : Option ℕ). Some (rows o b.params)) is ∙ ap (λ (x : List Reg). Some (rows (Some m) x)) ps;
            };
          };
          both = subst (λ (x : List Val). Data V t f x (bind (into f (block_no c)).regs ws frame'.current.regs)) (sym regs_stay)
              (subst (λ (x : List Reg). Data V t f frame.current.regs (bind x ws frame'.current.regs)) (sym (params' ∙ ps)) d);
          saved = saved;
          ready = refl;
          under = record { root = refl; frames = waits };
        })
        by_params (r ∷ rs) ps stays =
            let it : Loadable (held frame.current.regs q.0) ws = value r rs ps in
            at_load (record {
              func = f;
              block = b;
              rest = rest;
              awaited = q;
              to = r;
              others = rs;
              above = record { func = func; block = at; here = refl };
              stays = stays;
              below = record {
                func = same;
                here = stood.here
                    ∙ ap (λ (xs : List Instr). let y : Remaining = record { instrs = xs; term = term_of e f c b.term } in Some y) (kept_instrs e c b stays)
                    ∙ ap (λ (o : Option ℕ). Some (rows o b.params)) is ∙ ap (λ (x : List Reg). Some (rows (Some m) x)) ps
                    ∙ ap (λ (xs : List Reg). let y : Remaining = record { instrs = row op.AsyncRuntimeLoad xs (r ∷ rs) ∷ (map called b.instrs ++ before_end e f c b.term.instr.operands); term = term_of e f c b.term } in Some y) one;
              };
              few = subst (λ (x : List Reg). AllBelow (length f.regs) x) ps few;
              before = frame'.current.regs;
              both = subst (λ (x : List Val). Data V t f x frame'.current.regs) (sym regs_stay) d;
              object = it.object;
              holds = ap (λ (x : List Val). held x q.0) regs_stay ∙ it.holds;
              face = it.face;
              there = it.there;
              value = it.value;
              value' = it.value';
              payload = it.payload;
              alike = it.alike;
              loaded = ap (λ (x : List Reg). bind x ws frame'.current.regs) (params' ∙ ps) ∙ ap (λ (x : List Val). bind (r ∷ rs) x frame'.current.regs) it.one;
              saved = saved;
              ready = refl;
              under = record { root = refl; frames = waits };
            })

        by : (x : Bool) → is_emptied e ≡ x → Lands code V t (task_to []) (task_to' ws)
        by true emptied = at_failure (record {
          func = f;
          block = b;
          rest = rest;
          above = record { func = func; block = at; here = refl };
          fails = emptied;
          below = record {
            func = same;
            here = stood.here ∙ ap (λ (xs : List Instr). let y : Remaining = record { instrs = xs; term = term_of e f c b.term } in Some y) (failing e c b emptied).0
                ∙ ap (λ (x : Term). let y : Remaining = record { instrs = []; term = x } in Some y) (failing e c b emptied).1;
          };
          objects = (let low : Data V t f (bind (way_to f (Body c)).regs [] frame.current.regs) frame'.current.regs = subst (λ (x : List Val). Data V t f x frame'.current.regs) (sym regs_stay) d in low.objects);
          saved = saved;
          ready = refl;
          under = record { root = refl; frames = waits };
        })
        by false stays = by_params b.params refl stays
