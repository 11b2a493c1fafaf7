-- What the blocks that the pass makes use is given in them.
use Rattle.std.proofs.Common.{◌≡◌, ℕ, ◌+◌, Bool, true, false, List, [], ◌∷◌, ◌++◌, map, Option, Some, None, refl, sym, ap, ◌∙◌, subst}
use Rattle.std.specs.Prelude.{slice_get}
use Rattle.std.proofs.lemmas.List.{append-nil, append_assoc}
use Rattle.ir_forms.specs.declared.types.Ty.{Ty}
use Rattle.ir_verify.specs.Types.{same_type}
use Rattle.low_flow.specs.Lists.{has}
use Rattle.low_forms.specs.declared.code.Reg.{Reg}
use Rattle.low_forms.specs.declared.code.Instr.{Instr}
use Rattle.low_forms.specs.declared.code.Target.{Target}
use Rattle.low_forms.specs.declared.code.Term.{Term}
use Rattle.low_forms.specs.declared.code.Block.{Block}
use Rattle.low_forms.specs.declared.code.LowFunc.{LowFunc}
use Rattle.low_forms.specs.Registers.{on_type, reg_type}
use Rattle.low_forms.specs.Assigned.{numbers, assigned_by, block_assigns, args_of, used_at_end}
use Rattle.low_forms.proofs.Words.{and_right}
use Rattle.coro_lower.specs.declared.label.Label.TheVariants.{Entry, Body, SetsError, Cleanup, Suspended}
use Rattle.coro_lower.specs.declared.label.End.{End}
use Rattle.coro_lower.specs.declared.label.End.TheVariants as end
use Rattle.coro_lower.specs.Layout.{end_of, awaiting}
use Rattle.coro_lower.specs.Registers.{flag, saved, made, made_from, token, identity, handle, first_saved, values}
use Rattle.coro_lower.specs.Rows.{called}
use Rattle.coro_lower.specs.Shape.{suspend, moved, gives, before_end, awaited_at, loads, params_left, instrs_of, term_of, body, next, create, set_error, begins, label_block}
use Rattle.register_laws.specs.Laws.{used_by}
use Rattle.register_laws.proofs.Lists.{Sub, sub_left, sub_right, sub_both, sub_then, sub_front, sub_back, sub_append, sub_same}
use Rattle.register_laws.proofs.Good.{Good}
use Rattle.register_laws.proofs.Views.{types, haves}
use Rattle.coro_laws.proofs.Making.{is_task_end, no_task_end}
use Rattle.coro_laws.proofs.Giving.{sub_nothing, sub_self, assigned_append, good_front, good_called, params_kept}

-- all is given before
pub good_all : (given : List ℕ) (xs : List Instr) (t : Term) → Sub (used_by xs) given → Sub (used_at_end t) given → Good given xs t
good_all given [] t used last = last
good_all given (i ∷ xs) t used last = (
  sub_front (numbers i.operands) (used_by xs) given used,
  good_all (given ++ numbers i.results) xs t
      (sub_then (used_by xs) given (given ++ numbers i.results) (sub_back (numbers i.operands) (used_by xs) given used) (sub_left given (numbers i.results)))
      (sub_then (used_at_end t) given (given ++ numbers i.results) last (sub_left given (numbers i.results))),
)

-- what is used is given, or assigned within
pub good_uses : (given : List ℕ) (xs : List Instr) (t : Term) → Good given xs t → Sub (used_by xs ++ used_at_end t) (given ++ assigned_by xs)
good_uses given [] t good = sub_then (used_at_end t) given (given ++ []) good (sub_left given [])
good_uses given (i ∷ xs) t good =
    let same : (given ++ numbers i.results) ++ assigned_by xs ≡ given ++ (numbers i.results ++ assigned_by xs) = append_assoc given (numbers i.results) (assigned_by xs) in
    let G : List ℕ = given ++ (numbers i.results ++ assigned_by xs) in
    let later : Sub (used_by xs ++ used_at_end t) G =
    sub_then (used_by xs ++ used_at_end t) ((given ++ numbers i.results) ++ assigned_by xs) G (good_uses (given ++ numbers i.results) xs t good.1) (sub_same ((given ++ numbers i.results) ++ assigned_by xs) G same) in
    sub_both (numbers i.operands ++ used_by xs) (used_at_end t) G
    (sub_both (numbers i.operands) (used_by xs) G (sub_then (numbers i.operands) given G good.0 (sub_left given (numbers i.results ++ assigned_by xs))) (sub_front (used_by xs) (used_at_end t) G later))
    (sub_back (used_by xs) (used_at_end t) G later)

used_creates : (rs : List Reg) (xs : List ℕ) → Sub (used_by (map create rs)) xs
used_creates [] xs = sub_nothing xs
used_creates (r ∷ rs) xs = used_creates rs xs

assigned_creates : (rs : List Reg) → assigned_by (map create rs) ≡ numbers rs
assigned_creates [] = refl
assigned_creates (r ∷ rs) = ap (λ ns. r.0 ∷ ns) (assigned_creates rs)

used_errors : (rs : List Reg) → used_by (map set_error rs) ≡ numbers rs
used_errors [] = refl
used_errors (r ∷ rs) = ap (λ ns. r.0 ∷ ns) (used_errors rs)

moved_args : (f : LowFunc) (ts : List Target) → args_of (map (moved f) ts) ≡ args_of ts
moved_args f [] = refl
moved_args f (t ∷ ts) = ap (λ ns. numbers t.args ++ ns) (moved_args f ts)

numbers_append : (rs ss : List Reg) → numbers (rs ++ ss) ≡ numbers rs ++ numbers ss
numbers_append [] ss = refl
numbers_append (r ∷ rs) ss = ap (λ ns. r.0 ∷ ns) (numbers_append rs ss)

module _ (f : LowFunc) where
  abbrev objects : List Reg
  objects = token f ∷ values f

  abbrev pub entry_defs : List ℕ
  entry_defs = block_assigns (label_block f Entry)

  entry_is : entry_defs ≡ numbers objects ++ assigned_by (begins f)
  entry_is = assigned_append (map create objects) (begins f) ∙ ap (λ ns. ns ++ assigned_by (begins f)) (assigned_creates objects)

  entry_sub : (xs : List ℕ) → Sub xs (numbers objects ++ assigned_by (begins f)) → Sub xs entry_defs
  entry_sub xs sub = sub_then xs (numbers objects ++ assigned_by (begins f)) entry_defs sub (sub_same (numbers objects ++ assigned_by (begins f)) entry_defs (sym entry_is))

  pub objects_in : Sub (numbers objects) entry_defs
  objects_in = entry_sub (numbers objects) (sub_left (numbers objects) (assigned_by (begins f)))

  begun_in : (xs : List ℕ) → Sub xs (assigned_by (begins f)) → Sub xs entry_defs
  begun_in xs sub = entry_sub xs (sub_then xs (assigned_by (begins f)) (numbers objects ++ assigned_by (begins f)) sub (sub_right (numbers objects) (assigned_by (begins f))))

  pub identity_in : Sub (numbers (identity f ∷ [])) entry_defs
  identity_in = begun_in (numbers (identity f ∷ [])) (sub_left (numbers (identity f ∷ [])) (numbers (handle f ∷ first_saved f ∷ [])))

  pub handle_in : Sub (numbers (handle f ∷ [])) entry_defs
  handle_in = begun_in (numbers (handle f ∷ [])) (sub_then (numbers (handle f ∷ [])) (numbers (handle f ∷ first_saved f ∷ [])) (assigned_by (begins f)) (sub_left (numbers (handle f ∷ [])) (numbers (first_saved f ∷ []))) (sub_right (numbers (identity f ∷ [])) (numbers (handle f ∷ first_saved f ∷ []))))

  pub entry_good : (acc : List ℕ) → Good acc (label_block f Entry).instrs (label_block f Entry).term
  entry_good acc =
      let G0 : List ℕ = acc ++ assigned_by (map create objects) in
      let G1 : List ℕ = G0 ++ numbers (identity f ∷ []) in
      let G2 : List ℕ = G1 ++ numbers (handle f ∷ []) in
      let G3 : List ℕ = G2 ++ numbers (first_saved f ∷ []) in
      good_front acc (map create objects) (begins f) (suspend f (first_saved f) (Body 0)) (used_creates objects acc) (
        sub_nothing G0,
        (
          sub_right G0 (numbers (identity f ∷ [])),
          (
            sub_right G1 (numbers (handle f ∷ [])),
            (
              sub_then (numbers (handle f ∷ [])) G2 G3 (sub_right G1 (numbers (handle f ∷ []))) (sub_left G2 (numbers (first_saved f ∷ []))),
              sub_then (numbers (first_saved f ∷ [])) G3 (G3 ++ []) (sub_right G2 (numbers (first_saved f ∷ []))) (sub_left G3 []),
            ),
          ),
        ),
      )

  -- what a coroutine gives
  gives_good : (X : List ℕ) (j : ℕ) (vs : List Reg) (ts : List Ty) (t : Term) → haves (types f vs) ts ≡ true → Sub (numbers vs) X → Sub (numbers (made_from f j ts)) X → Sub (numbers (token f ∷ [])) X → Sub (used_at_end t) X → Good X (gives f j vs) t
  gives_good X j [] ts t has used objs tok last = (tok, sub_then (used_at_end t) X (X ++ []) last (sub_left X []))
  gives_good X j (v ∷ vs) [] t has used objs tok last = cc
  gives_good X j (v ∷ vs) (ty ∷ ts) t has used objs tok last =
      let X1 : List ℕ = X ++ [] in
      let X2 : List ℕ = X1 ++ [] in
      let up : Sub X X2 = sub_then X X1 X2 (sub_left X []) (sub_left X1 []) in
      let here : Sub (numbers (made f j ∷ [])) X = sub_front (numbers (made f j ∷ [])) (numbers (made_from f (j + 1) ts)) X objs in (
        sub_both (numbers (v ∷ [])) (numbers (made f j ∷ [])) X (sub_front (numbers (v ∷ [])) (numbers vs) X used) here,
        (
          sub_then (numbers (made f j ∷ [])) X X1 here (sub_left X []),
          gives_good X2 (j + 1) vs ts t (and_right (on_type (same_type ty) (reg_type f v)) (haves (types f vs) ts) has)
              (sub_then (numbers vs) X X2 (sub_back (numbers (v ∷ [])) (numbers vs) X used) up)
              (sub_then (numbers (made_from f (j + 1) ts)) X X2 (sub_back (numbers (made f j ∷ [])) (numbers (made_from f (j + 1) ts)) X objs) up)
              (sub_then (numbers (token f ∷ [])) X X2 tok up) (sub_then (used_at_end t) X X2 last up),
        ),
      )

  -- ---- a block

  -- what is known where the block begins
  pub record Facts (k : ℕ) (b : Block) (acc : List ℕ) : Type 0 where
    pub inner : List ℕ
    pub good : Good inner b.instrs b.term
    pub has_inner : Sub inner (acc ++ numbers b.params)
    pub loaded : (w : ℕ) (x : Block) → awaiting f k ≡ Some w → slice_get f.blocks w ≡ Some x → Sub (numbers x.term.instr.operands) acc
    pub base : f.coroutine ≡ true → Sub entry_defs acc
    pub given : end_of f b ≡ end.Gives → haves (types f b.term.instr.operands) f.results ≡ true

  task_by : (b : Block) → is_task_end (end_of f b) ≡ true → f.coroutine ≡ true
  task_by b is = by f.coroutine refl
    where
      by : (c : Bool) → f.coroutine ≡ c → f.coroutine ≡ true
      by true task = task
      by false plain = (let no : is_task_end (end_of f b) ≡ false = no_task_end f b plain in cc)

  module _ (k : ℕ) (b : Block) (acc : List ℕ) (facts : Facts k b acc) where
    abbrev L : List Instr
    L = loads f (awaiting f k) b.params

    abbrev G : List ℕ
    G = acc ++ numbers (params_left (awaiting f k) b.params)

    abbrev more : List ℕ
    more = G ++ assigned_by L

    abbrev X : List ℕ
    X = more ++ assigned_by b.instrs

    acc_in_G : Sub acc G
    acc_in_G = sub_left acc (numbers (params_left (awaiting f k) b.params))

    acc_in_X : Sub acc X
    acc_in_X = sub_then acc more X (sub_then acc G more acc_in_G (sub_left G (assigned_by L))) (sub_left more (assigned_by b.instrs))

    inner_in : Sub facts.inner more
    inner_in =
        sub_then facts.inner (acc ++ numbers b.params) more facts.has_inner
        (sub_both acc (numbers b.params) more (sub_then acc G more acc_in_G (sub_left G (assigned_by L)))
        (sub_then (numbers b.params) (numbers (params_left (awaiting f k) b.params) ++ assigned_by L) more (params_kept f (awaiting f k) b.params)
        (sub_append (numbers (params_left (awaiting f k) b.params)) (assigned_by L) G (assigned_by L) (sub_right acc (numbers (params_left (awaiting f k) b.params))) (sub_self (assigned_by L)))))

    load_used : (o : Option ℕ) → awaiting f k ≡ o → (params : List Reg) → Sub (used_by (loads f o params)) acc
    load_used None is params = sub_nothing acc
    load_used (Some w) is [] = sub_nothing acc
    load_used (Some w) is (r ∷ rs) = sub_both (numbers (awaited_at (slice_get f.blocks w))) [] acc (by (slice_get f.blocks w) refl) (sub_nothing acc)
      where
        by : (o : Option Block) → slice_get f.blocks w ≡ o → Sub (numbers (awaited_at o)) acc
        by None at = sub_nothing acc
        by (Some x) at = facts.loaded w x is at

    with_rest : (rest : List Instr) (t : Term) → (Sub (used_at_end b.term) X → Good X rest t) → Good G (L ++ map called b.instrs ++ rest) t
    with_rest rest t then =
        subst (λ xs. Good G xs t) (sym (append_assoc L (map called b.instrs) rest))
        (good_front G L (map called b.instrs ++ rest) t (sub_then (used_by L) acc G (load_used (awaiting f k) refl b.params) acc_in_G)
        (good_called facts.inner more b.instrs rest b.term t inner_in facts.good then))

    end_good : (e : End) → end_of f b ≡ e → Good G (instrs_of e f k b) (term_of e f k b.term)
    end_good end.Stays e_is = with_rest [] (term_of end.Stays f k b.term)
        (λ last. sub_then (numbers b.term.instr.operands ++ args_of (map (moved f) b.term.targets)) (used_at_end b.term) X
        (sub_same (numbers b.term.instr.operands ++ args_of (map (moved f) b.term.targets)) (used_at_end b.term) (ap (λ ns. numbers b.term.instr.operands ++ ns) (moved_args f b.term.targets))) last)
    end_good end.Waits e_is = with_rest (before_end end.Waits f k b.term.instr.operands) (term_of end.Waits f k b.term)
        (λ last. (let ops : Sub (numbers b.term.instr.operands) X = sub_front (numbers b.term.instr.operands) (args_of b.term.targets) X last in
        (ops, (sub_then (numbers b.term.instr.operands) X (X ++ []) ops (sub_left X []), sub_right (X ++ []) (numbers (flag f k ∷ []))))))
    end_good end.Suspends e_is = with_rest (before_end end.Suspends f k b.term.instr.operands) (term_of end.Suspends f k b.term)
        (λ last. (let ops : Sub (numbers b.term.instr.operands) X = sub_front (numbers b.term.instr.operands) (args_of b.term.targets) X last in
        let hand : Sub (numbers (handle f ∷ [])) X = sub_then (numbers (handle f ∷ [])) acc X (sub_then (numbers (handle f ∷ [])) entry_defs acc handle_in (facts.base (task_by b (ap is_task_end e_is)))) acc_in_X in
        let X1 : List ℕ = X ++ numbers (saved f k ∷ []) in
        let both : Sub (numbers (b.term.instr.operands ++ handle f ∷ [])) X1 =
        sub_then (numbers (b.term.instr.operands ++ handle f ∷ [])) (numbers b.term.instr.operands ++ numbers (handle f ∷ [])) X1 (sub_same (numbers (b.term.instr.operands ++ handle f ∷ [])) (numbers b.term.instr.operands ++ numbers (handle f ∷ [])) (numbers_append b.term.instr.operands (handle f ∷ [])))
        (sub_then (numbers b.term.instr.operands ++ numbers (handle f ∷ [])) X X1 (sub_both (numbers b.term.instr.operands) (numbers (handle f ∷ [])) X ops hand) (sub_left X (numbers (saved f k ∷ [])))) in
        (hand, (both, sub_then (numbers (saved f k ∷ [])) X1 (X1 ++ []) (sub_right X (numbers (saved f k ∷ []))) (sub_left X1 [])))))
    end_good end.Gives e_is = with_rest (before_end end.Gives f k b.term.instr.operands) (term_of end.Gives f k b.term)
        (λ last. (let base : Sub entry_defs X = sub_then entry_defs acc X (facts.base (task_by b (ap is_task_end e_is))) acc_in_X in
        let objs : Sub (numbers objects) X = sub_then (numbers objects) entry_defs X objects_in base in
        gives_good X 1 b.term.instr.operands f.results (term_of end.Gives f k b.term) (facts.given e_is)
        (sub_front (numbers b.term.instr.operands) (args_of b.term.targets) X last)
        (sub_back (numbers (token f ∷ [])) (numbers (values f)) X objs) (sub_front (numbers (token f ∷ [])) (numbers (values f)) X objs) (sub_nothing X)))
    end_good end.Fails e_is = sub_nothing G

    pub body_good : Good (acc ++ numbers (body f k (Some b)).params) (body f k (Some b)).instrs (body f k (Some b)).term
    body_good = end_good (end_of f b) refl

  pub next_good : (acc : List ℕ) (k : ℕ) (b : Block) → Sub (numbers b.term.instr.operands) acc → Good (acc ++ []) (next f k (Some b)).instrs (next f k (Some b)).term
  next_good acc k b used = (sub_then (numbers b.term.instr.operands) acc (acc ++ []) used (sub_left acc []), sub_right (acc ++ []) (numbers (flag f k ∷ [])))

  pub error_good : (acc : List ℕ) → Sub entry_defs acc → Good acc (label_block f SetsError).instrs (label_block f SetsError).term
  error_good acc base = good_all acc (map set_error (values f ++ token f ∷ [])) (label_block f SetsError).term
      (sub_then (used_by (map set_error (values f ++ token f ∷ []))) (numbers (values f) ++ numbers (token f ∷ [])) acc
      (sub_same (used_by (map set_error (values f ++ token f ∷ []))) (numbers (values f) ++ numbers (token f ∷ [])) (used_errors (values f ++ token f ∷ []) ∙ numbers_append (values f) (token f ∷ [])))
      (sub_then (numbers (values f) ++ numbers (token f ∷ [])) entry_defs acc
      (sub_both (numbers (values f)) (numbers (token f ∷ [])) entry_defs (sub_back (numbers (token f ∷ [])) (numbers (values f)) entry_defs objects_in) (sub_front (numbers (token f ∷ [])) (numbers (values f)) entry_defs objects_in)) base))
      (sub_nothing acc)

  pub cleanup_good : (acc : List ℕ) → Sub entry_defs acc → Good acc (label_block f Cleanup).instrs (label_block f Cleanup).term
  cleanup_good acc base = good_all acc (label_block f Cleanup).instrs (label_block f Cleanup).term
      (sub_then (numbers (identity f ∷ handle f ∷ handle f ∷ [])) entry_defs acc
      (sub_both (numbers (identity f ∷ [])) (numbers (handle f ∷ handle f ∷ [])) entry_defs identity_in (sub_both (numbers (handle f ∷ [])) (numbers (handle f ∷ [])) entry_defs handle_in handle_in)) base)
      (sub_nothing acc)

  pub suspended_good : (acc : List ℕ) → Sub entry_defs acc → Good acc (label_block f Suspended).instrs (label_block f Suspended).term
  suspended_good acc base = good_all acc (label_block f Suspended).instrs (label_block f Suspended).term
      (sub_then (numbers (handle f ∷ [])) entry_defs acc handle_in base)
      (sub_then (numbers objects ++ []) (numbers objects) acc (sub_same (numbers objects ++ []) (numbers objects) (append-nil (numbers objects))) (sub_then (numbers objects) entry_defs acc objects_in base))
