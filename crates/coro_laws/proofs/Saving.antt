-- Saves in the blocks that the pass makes, and what follows them.
use Rattle.std.proofs.Common.{◌≡◌, inl, inr, ℕ, suc, ◌==◌, ◌&&◌, ◌||◌, not, Bool, true, false, List, [], ◌∷◌, ◌++◌, map, Option, Some, None, refl, sym, ap, ◌∙◌, subst}
use Rattle.std.specs.Prelude.{slice_get}
use Rattle.std.proofs.lemmas.Bool.Decides.{eqb_tells}
use Rattle.op_table.specs.declared.kind.OpKind.{OpKind}
use Rattle.op_table.specs.declared.kind.OpKind.TheVariants as op
use Rattle.low_forms.specs.declared.code.LowKind.{LowKind}
use Rattle.low_forms.specs.declared.code.LowKind.TheVariants.{Row, Launch, Await}
use Rattle.low_forms.specs.declared.code.Reg.{Reg}
use Rattle.low_forms.specs.declared.code.Instr.{Instr}
use Rattle.low_forms.specs.declared.code.Term.{Term}
use Rattle.low_forms.specs.declared.code.Block.{Block}
use Rattle.low_forms.specs.declared.code.LowFunc.{LowFunc}
use Rattle.low_forms.specs.Registers.{every}
use Rattle.low_forms.specs.Saves.{is_save, is_suspend, is_followed, saves_followed, resumes, none_alone, has_no_save, saves_start, all_followed, nowhere_else}
use Rattle.low_forms.proofs.Words.{and_left, and_right, and_both}
use Rattle.register_numbers.specs.FirstPlaces.{place_in}
use Rattle.register_numbers.specs.Renumbered.{definitions}
use Rattle.coro_lower.specs.declared.label.Label.{Label}
use Rattle.coro_lower.specs.declared.label.Label.TheVariants.{Entry, Next, Body, SetsError, Cleanup, Suspended}
use Rattle.coro_lower.specs.declared.label.End.{End}
use Rattle.coro_lower.specs.declared.label.End.TheVariants as end
use Rattle.coro_lower.specs.Layout.{end_of, awaiting, layout}
use Rattle.coro_lower.specs.Registers.{saved, token, values, first_saved}
use Rattle.coro_lower.specs.Rows.{call_kind, called, idle}
use Rattle.coro_lower.specs.Shape.{suspend, term_of, loads, before_end, instrs_of, params_left, body, next, create, begins, label_block, lowered, runtime_func}
use Rattle.register_laws.proofs.Lists.{every_at, every_append}
use Rattle.register_laws.proofs.Renamed.{all_followed_renamed, alone_renamed, saves_start_renamed}
use Rattle.coro_laws.specs.Half.{is_of_coroutines, holds_none}
use Rattle.coro_laws.specs.Laws.{SavesKeep, SavesFollowed}
use Rattle.coro_laws.proofs.Lists.{Among}
use Rattle.coro_laws.proofs.Making.{None_of, not_false, not_true, is_made, Quiet, none_gives, none_creates, none_errors, none_front, none_holds, is_task_end, no_task_end}
use Rattle.coro_laws.proofs.Labels.{behind_entry, task_layout, plain_layout, staying, entry_apart, From, labels_from}

-- a save, what resumes or what suspends
abbrev pub is_saving : LowKind → Bool
is_saving kind = is_save kind || (resumes kind || is_suspend kind)

pub quiet_saves : Quiet is_saving
quiet_saves = record { made = by; kept = λ kind none. kept kind none }
  where
    by : (kind : OpKind) → is_made kind ≡ true → is_saving (Row kind) ≡ false
    by op.AsyncRuntimeLoad is = refl
    by op.AsyncRuntimeIsError is = refl
    by op.AsyncRuntimeStore is = refl
    by op.AsyncRuntimeSetAvailable is = refl
    by op.AsyncRuntimeCreate is = refl
    by op.AsyncRuntimeSetError is = refl
    by op.AsyncCoroId is = refl
    by op.AsyncCoroBegin is = refl
    by op.AsyncCoroFree is = refl
    by op.AsyncCoroEnd is = refl
    by kind is = cc

    rows : (kind : OpKind) → is_of_coroutines (Row kind) ≡ false → is_saving (Row kind) ≡ false
    rows op.AsyncCoroSave none = cc
    rows op.AsyncCoroSuspend none = cc
    rows op.AsyncRuntimeResume none = cc
    rows op.AsyncRuntimeAwaitAndResume none = cc
    rows kind none = refl

    kept : (kind : LowKind) → is_of_coroutines kind ≡ false → is_saving (call_kind kind) ≡ false
    kept Launch none = refl
    kept Await none = refl
    kept (Row kind) none = rows kind none

-- ---- instructions of which none is a save, a resume or a suspend

or_parts : (a b c : Bool) → (a || (b || c)) ≡ false → (a ≡ false) × (b ≡ false) × (c ≡ false)
or_parts true b c none = cc
or_parts false true c none = cc
or_parts false false true none = cc
or_parts false false false none = (refl, refl, refl)

abbrev Parts : Instr → Type 0
Parts i = (is_save i.kind ≡ false) × (resumes i.kind ≡ false) × (is_suspend i.kind ≡ false)

pub head_none : (i : Instr) (instrs : List Instr) → None_of is_saving (i ∷ instrs) → Parts i
head_none i instrs none =
    or_parts (is_save i.kind) (resumes i.kind) (is_suspend i.kind)
    (not_false (is_saving i.kind) (and_left (not (is_saving i.kind)) (every (λ j. not (is_saving j.kind)) instrs) none))

pub tail_none : (i : Instr) (instrs : List Instr) → None_of is_saving (i ∷ instrs) → None_of is_saving instrs
tail_none i instrs none = and_right (not (is_saving i.kind)) (every (λ j. not (is_saving j.kind)) instrs) none

pub followed_behind : (is_first : Bool) (xs ys : List Instr) (t : Term) → None_of is_saving xs → saves_followed is_first (xs ++ ys) t ≡ saves_followed is_first ys t
followed_behind is_first [] ys t none = refl
followed_behind is_first (x ∷ xs) ys t none =
    let p : Parts x = head_none x xs none in
    ap (λ s. (not s || is_followed is_first x (xs ++ ys) t) && saves_followed is_first (xs ++ ys) t) p.0 ∙ followed_behind is_first xs ys t (tail_none x xs none)

pub alone_behind : (xs ys : List Instr) (t : Term) → None_of is_saving xs → none_alone false false (xs ++ ys) t ≡ none_alone false false ys t
alone_behind [] ys t none = refl
alone_behind (x ∷ xs) ys t none =
    let p : Parts x = head_none x xs none in
    ap (λ r. ((not r || false) && not (is_suspend x.kind)) && none_alone (is_save x.kind) r (xs ++ ys) t) p.1
    ∙ ap (λ s. (true && not s) && none_alone (is_save x.kind) false (xs ++ ys) t) p.2
    ∙ ap (λ s. none_alone s false (xs ++ ys) t) p.0
    ∙ alone_behind xs ys t (tail_none x xs none)

no_save_where : (xs : List Instr) → None_of is_saving xs → every (λ i. not (is_save i.kind)) xs ≡ true
no_save_where [] none = refl
no_save_where (x ∷ xs) none =
    let p : Parts x = head_none x xs none in
    and_both (not (is_save x.kind)) (every (λ i. not (is_save i.kind)) xs) (not_true (is_save x.kind) p.0) (no_save_where xs (tail_none x xs none))

-- a block that has nothing of it
pub record Calm (b : Block) : Type 0 where
  pub instrs : None_of is_saving b.instrs
  pub last : is_suspend b.term.instr.kind ≡ false

calm_follows : (is_first : Bool) (b : Block) → Calm b → saves_followed is_first b.instrs b.term ≡ true
calm_follows is_first b calm = by b.instrs calm.instrs
  where
    by : (xs : List Instr) → None_of is_saving xs → saves_followed is_first xs b.term ≡ true
    by [] none = refl
    by (x ∷ xs) none =
        let p : Parts x = head_none x xs none in
        ap (λ s. (not s || is_followed is_first x xs b.term) && saves_followed is_first xs b.term) p.0 ∙ by xs (tail_none x xs none)

calm_alone : (b : Block) → Calm b → nowhere_else b ≡ true
calm_alone b calm = by b.instrs calm.instrs
  where
    by : (xs : List Instr) → None_of is_saving xs → none_alone false false xs b.term ≡ true
    by [] none = ap (λ s. not s || false) calm.last
    by (x ∷ xs) none =
        let p : Parts x = head_none x xs none in
        ap (λ r. ((not r || false) && not (is_suspend x.kind)) && none_alone (is_save x.kind) r xs b.term) p.1
        ∙ ap (λ s. (true && not s) && none_alone (is_save x.kind) false xs b.term) p.2
        ∙ ap (λ s. none_alone s false xs b.term) p.0
        ∙ by xs (tail_none x xs none)

-- ---- what is kept where saves are as they must be

pub record Keeps (is_first : Bool) (b : Block) : Type 0 where
  pub follows : saves_followed is_first b.instrs b.term ≡ true
  pub alone : nowhere_else b ≡ true

calm_keeps : (is_first : Bool) (b : Block) → Calm b → Keeps is_first b
calm_keeps is_first b calm = record { follows = calm_follows is_first b calm; alone = calm_alone b calm }

same_reg : (n : ℕ) → (n == n) ≡ true
same_reg n = elim (eqb_tells n n) [ inl s ↦ s.0 | inr o ↦ absurd (o.1 refl) ]

-- ---- ends

abbrev pub is_suspends : End → Bool
is_suspends end.Suspends = true
is_suspends _ = false

pub not_suspend : (kind : LowKind) → is_of_coroutines kind ≡ false → is_suspend kind ≡ false
not_suspend Launch none = refl
not_suspend Await none = refl
not_suspend (Row kind) none = by kind none
  where
    by : (kind : OpKind) → is_of_coroutines (Row kind) ≡ false → is_suspend (Row kind) ≡ false
    by op.AsyncCoroSuspend none = cc
    by kind none = refl

module _ (f : LowFunc) where
  abbrev front : ℕ → Block → List Instr
  front k b = loads f (awaiting f k) b.params ++ map called b.instrs

  -- the block with this end
  abbrev ended : End → ℕ → Block → Block
  ended e k b = record { params = params_left (awaiting f k) b.params; instrs = instrs_of e f k b; term = term_of e f k b.term }

  joined_none : (xs ys : List Instr) → None_of is_saving xs → None_of is_saving ys → None_of is_saving (xs ++ ys)
  joined_none xs ys one two = every_append (λ i. not (is_saving i.kind)) xs ys one two

  calm_end : (e : End) (k : ℕ) (b : Block) → holds_none b ≡ true → is_suspends e ≡ false → Calm (ended e k b)
  calm_end end.Stays k b none is = record {
    instrs = joined_none (front k b) [] (none_front is_saving quiet_saves f k b none) refl;
    last = not_suspend b.term.instr.kind (none_holds b none);
  }
  calm_end end.Waits k b none is = record {
    instrs = joined_none (front k b) (before_end end.Waits f k b.term.instr.operands) (none_front is_saving quiet_saves f k b none) refl;
    last = refl;
  }
  calm_end end.Suspends k b none is = cc
  calm_end end.Gives k b none is = record {
    instrs = joined_none (front k b) (before_end end.Gives f k b.term.instr.operands) (none_front is_saving quiet_saves f k b none) (none_gives is_saving quiet_saves f 1 b.term.instr.operands);
    last = refl;
  }
  calm_end end.Fails k b none is = record { instrs = refl; last = refl }

  -- a suspend in another block than the first
  suspends_keeps : (k : ℕ) (b : Block) → holds_none b ≡ true → Keeps false (ended end.Suspends k b)
  suspends_keeps k b none =
      let t : Term = suspend f (saved f k) (Next k) in
      let xs : List Instr = front k b in
      let ys : List Instr = before_end end.Suspends f k b.term.instr.operands in
      let calm : None_of is_saving xs = none_front is_saving quiet_saves f k b none in
      record {
        follows = followed_behind false xs ys t calm ∙ ap (λ c. c && true) (same_reg (saved f k).0);
        alone = alone_behind xs ys t calm;
      }

  end_keeps : (e : End) (k : ℕ) (b : Block) → holds_none b ≡ true → Keeps false (ended e k b)
  end_keeps end.Suspends k b none = suspends_keeps k b none
  end_keeps end.Stays k b none = calm_keeps false (ended end.Stays k b) (calm_end end.Stays k b none refl)
  end_keeps end.Waits k b none = calm_keeps false (ended end.Waits k b) (calm_end end.Waits k b none refl)
  end_keeps end.Gives k b none = calm_keeps false (ended end.Gives k b) (calm_end end.Gives k b none refl)
  end_keeps end.Fails k b none = calm_keeps false (ended end.Fails k b) (calm_end end.Fails k b none refl)

  idle_calm : Calm idle
  idle_calm = record { instrs = refl; last = refl }

  module _ (none : every holds_none f.blocks ≡ true) where
    body_keeps : (k : ℕ) (o : Option Block) → slice_get f.blocks k ≡ o → Keeps false (body f k o)
    body_keeps k None at = calm_keeps false idle idle_calm
    body_keeps k (Some b) at = end_keeps (end_of f b) k b (every_at holds_none f.blocks k b none at)

    next_keeps : (k : ℕ) (o : Option Block) → Keeps false (next f k o)
    next_keeps k None = calm_keeps false idle idle_calm
    next_keeps k (Some b) = calm_keeps false (next f k (Some b)) (record { instrs = refl; last = refl })

    label_keeps : (l : Label) → (l ≡ Entry → ⊥) → Keeps false (label_block f l)
    label_keeps Entry other = absurd (other refl)
    label_keeps (Body k) other = body_keeps k (slice_get f.blocks k) refl
    label_keeps (Next k) other = next_keeps k (slice_get f.blocks k)
    label_keeps SetsError other = calm_keeps false (label_block f SetsError) (record { instrs = none_errors is_saving quiet_saves (values f ++ token f ∷ []); last = refl })
    label_keeps Cleanup other = calm_keeps false (label_block f Cleanup) (record { instrs = refl; last = refl })
    label_keeps Suspended other = calm_keeps false (label_block f Suspended) (record { instrs = refl; last = refl })

    abbrev objects : List Reg
    objects = token f ∷ values f

    created : None_of is_saving (map create objects)
    created = none_creates is_saving quiet_saves objects

    entry_keeps : Keeps true (label_block f Entry)
    entry_keeps =
        let t : Term = suspend f (first_saved f) (Body 0) in
        record {
          follows = followed_behind true (map create objects) (begins f) t created ∙ ap (λ c. c && true) (same_reg (first_saved f).0);
          alone = alone_behind (map create objects) (begins f) t created;
        }

    -- ---- plain functions

    pub plain_calm : f.coroutine ≡ false → (l : Label) → Among l (staying f) → Calm (label_block f l)
    plain_calm plain l a =
        let r : From f false 0 f.blocks l = labels_from f false 0 f.blocks l a in
        elim r.home [
          | inl is ↦ subst (λ m. Calm (label_block f m)) (sym is) (by r.number (slice_get f.blocks r.number) refl)
          | inr is ↦ (let task : f.coroutine ≡ true = is.2 in cc)
        ]
      where
        not_suspends : (e : End) → is_task_end e ≡ false → is_suspends e ≡ false
        not_suspends end.Suspends is = cc
        not_suspends e is = refl

        by : (k : ℕ) (o : Option Block) → slice_get f.blocks k ≡ o → Calm (body f k o)
        by k None at = idle_calm
        by k (Some b) at = calm_end (end_of f b) k b (every_at holds_none f.blocks k b none at) (not_suspends (end_of f b) (no_task_end f b plain))

    -- ---- all blocks

    later_followed : (ls : List Label) → ((l : Label) → Among l ls → l ≡ Entry → ⊥) → all_followed false (map (label_block f) ls) ≡ true
    later_followed [] other = refl
    later_followed (l ∷ ls) other =
        and_both (saves_followed false (label_block f l).instrs (label_block f l).term) (all_followed false (map (label_block f) ls))
        (label_keeps l (other l (0, refl))).follows (later_followed ls (λ m a. other m (suc a.0, a.1)))

    calm_followed : (is_first : Bool) (ls : List Label) → ((l : Label) → Among l ls → Calm (label_block f l)) → all_followed is_first (map (label_block f) ls) ≡ true
    calm_followed is_first [] calm = refl
    calm_followed is_first (l ∷ ls) calm =
        and_both (saves_followed is_first (label_block f l).instrs (label_block f l).term) (all_followed false (map (label_block f) ls))
        (calm_follows is_first (label_block f l) (calm l (0, refl))) (calm_followed false ls (λ m a. calm m (suc a.0, a.1)))

    all_alone : (ls : List Label) → ((l : Label) → Among l ls → nowhere_else (label_block f l) ≡ true) → every nowhere_else (map (label_block f) ls) ≡ true
    all_alone [] alone = refl
    all_alone (l ∷ ls) alone = and_both (nowhere_else (label_block f l)) (every nowhere_else (map (label_block f) ls)) (alone l (0, refl)) (all_alone ls (λ m a. alone m (suc a.0, a.1)))

    no_saves : (ls : List Label) → ((l : Label) → Among l ls → Calm (label_block f l)) → every has_no_save (map (label_block f) ls) ≡ true
    no_saves [] calm = refl
    no_saves (l ∷ ls) calm =
        and_both (has_no_save (label_block f l)) (every has_no_save (map (label_block f) ls))
        (no_save_where (label_block f l).instrs (calm l (0, refl)).instrs) (no_saves ls (λ m a. calm m (suc a.0, a.1)))

    no_save_behind : (xs ys : List Instr) → None_of is_saving xs → every (λ i. not (is_save i.kind)) (xs ++ ys) ≡ every (λ i. not (is_save i.kind)) ys
    no_save_behind [] ys calm = refl
    no_save_behind (x ∷ xs) ys calm = ap (λ s. not s && every (λ i. not (is_save i.kind)) (xs ++ ys)) (head_none x xs calm).0 ∙ no_save_behind xs ys (tail_none x xs calm)

    or_second : (a b : Bool) → b ≡ true → (a || b) ≡ true
    or_second true b is = refl
    or_second false b is = is

    starts_where : (ls : List Label) → ((l : Label) → Among l ls → Calm (label_block f l)) → saves_start (map (label_block f) ls) ≡ true
    starts_where [] calm = refl
    starts_where (l ∷ ls) calm = or_second (not (has_no_save (label_block f l))) (every has_no_save (map (label_block f) ls)) (no_saves ls (λ m a. calm m (suc a.0, a.1)))

    by_task : f.coroutine ≡ true → SavesKeep (lowered f)
    by_task task =
        let ls : List Label = behind_entry f in
        let is : map (label_block f) (layout f) ≡ label_block f Entry ∷ map (label_block f) ls = ap (map (label_block f)) (task_layout f task) in
        let other : (l : Label) → Among l ls → l ≡ Entry → ⊥ = λ l a same. entry_apart f (subst (λ m. Among m ls) same a) in
        let first : saves_followed true (label_block f Entry).instrs (label_block f Entry).term ≡ true = entry_keeps.follows in
        let saves_one : has_no_save (label_block f Entry) ≡ false = no_save_behind (map create objects) (begins f) created in
        record {
          saves = subst (λ bs. all_followed true bs ≡ true) (sym is)
              (and_both (saves_followed true (label_block f Entry).instrs (label_block f Entry).term) (all_followed false (map (label_block f) ls)) first (later_followed ls other));
          alone = subst (λ bs. every nowhere_else bs ≡ true) (sym is)
              (and_both (nowhere_else (label_block f Entry)) (every nowhere_else (map (label_block f) ls)) entry_keeps.alone (all_alone ls (λ l a. (label_keeps l (other l a)).alone)));
          first_save = subst (λ bs. saves_start bs ≡ true) (sym is) (ap (λ b. not b || every has_no_save (map (label_block f) ls)) saves_one);
        }

    by_plain : f.coroutine ≡ false → SavesKeep (lowered f)
    by_plain plain =
        let is : map (label_block f) (layout f) ≡ map (label_block f) (staying f) = ap (map (label_block f)) (plain_layout f plain) in
        record {
          saves = subst (λ bs. all_followed true bs ≡ true) (sym is) (calm_followed true (staying f) (plain_calm plain));
          alone = subst (λ bs. every nowhere_else bs ≡ true) (sym is) (all_alone (staying f) (λ l a. calm_alone (label_block f l) (plain_calm plain l a)));
          first_save = subst (λ bs. saves_start bs ≡ true) (sym is) (starts_where (staying f) (plain_calm plain));
        }

    by_kind : (c : Bool) → f.coroutine ≡ c → SavesKeep (lowered f)
    by_kind true task = by_task task
    by_kind false plain = by_plain plain

    pub lowered_saves : SavesKeep (lowered f)
    lowered_saves = by_kind f.coroutine refl

renumbered_saves : (f : LowFunc) → SavesKeep (lowered f) → SavesKeep (runtime_func f)
unfolding runtime_func
renumbered_saves f keeps =
    let g : LowFunc = lowered f in
    record {
      saves = all_followed_renamed (place_in (definitions g)) true g.blocks keeps.saves;
      alone = alone_renamed (place_in (definitions g)) g.blocks ∙ keeps.alone;
      first_save = saves_start_renamed (place_in (definitions g)) g.blocks ∙ keeps.first_save;
    }

pub saves_followed_law : SavesFollowed
saves_followed_law f none = renumbered_saves f (lowered_saves f none)
