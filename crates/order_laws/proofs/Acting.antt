-- Where an action can be taken, what it is answered and what it changes: the same in both.
use Rattle.std.specs.Prelude.{◌&&◌, nat_lt, nat_le, cond, is_some}
use Rattle.std.specs.Option.{option_map}
use Rattle.std.proofs.Common.{◌≡◌, ◌<◌, ℕ, suc, ◌+◌, Bool, true, false, List, [], ◌∷◌, ◌++◌, length, Option, Some, None, refl, sym, ap, subst, ◌∙◌, arith}
use Rattle.std.proofs.lemmas.Bool.{true≢false, ltb-true, lt-ltb, leb-true, le-leb}
use Rattle.ir_forms.specs.declared.args.ArgValue.{ArgValue}
use Rattle.ir_forms.specs.declared.names.ElementName.{ElementName}
use Rattle.ir_forms.specs.declared.names.ElementName.TheVariants.{Token, Value}
use Rattle.ir_forms.specs.declared.names.MadeName.{MadeName}
use Rattle.ir_forms.specs.declared.names.MadeName.TheVariants.{Argument, Made}
use Rattle.ir_forms.specs.Names.{Path, iteration_of, maker}
use Rattle.ir_forms.specs.Shapes.{product}
use Rattle.one_end.specs.Programs as one
use Rattle.one_end.specs.Runs as runs
use Rattle.one_end.proofs.Basics.{none≢some, some_inj}
use Rattle.one_end.proofs.Answers.{each_map}
use Rattle.source_meaning.specs.declared.values.Val.TheVariants.{Number, Memory, Group}
use Rattle.source_meaning.specs.Values.{maybe}
use Rattle.source_meaning.specs.Tasks.{Program, Loop, Ask, Reads, Writes, Allocs, Creates, Adds, Launches, Enters, JoinsAll, AwaitsOne, AwaitsAll, Outcome, Gave, FailedAt}
use Rattle.source_meaning.specs.World.{Gathering, World, group_at, has_ended, after, enabled}
use Rattle.source_meaning.specs.World as world
use Rattle.end_laws.specs.ModuleProgram.{Begin, Values, ended_as, asked, reply}
use Rattle.end_laws.specs.Unread.{LikeAsk}
use Rattle.end_laws.specs.Unread as like
use Rattle.order_laws.proofs.Held.{OkAsk}
use Rattle.order_laws.proofs.Lists.{turned_length, all_turned, below_agree, below_each, each_below, all_each, each_all}
use Rattle.order_laws.proofs.Shared.{Buf, Grp, Plain, Shared, shared_plain, shared_written, shared_made, shared_created, shared_joined}

-- a write where there is no cell is one of nothing
abbrev pub clipped : (MadeName → ℕ → Bool) → one.Act Begin Values → one.Act Begin Values
clipped ext (one.Writes b i n) = one.Writes b i (cond (ext b i) n 0)
clipped ext a = a

good_same : (o : Option Outcome) → world.is_good o ≡ one.is_good (option_map ended_as o)
good_same None = refl
good_same (Some (Gave vs)) = refl
good_same (Some (FailedAt at)) = refl

and_both : (b c : Bool) → b && c ≡ true → (b ≡ true) × (c ≡ true)
and_both true c h = (refl, h)
and_both false c h = absurd (true≢false (sym h))

is_ended : (o : Option Outcome) → is_some o ≡ true → (x : one.Outcome Values) × (option_map ended_as o ≡ Some x)
is_ended None h = absurd (true≢false (sym h))
is_ended (Some o) h = (ended_as o, refl)

ended_is : (o : Option Outcome) (x : one.Outcome Values) → option_map ended_as o ≡ Some x → is_some o ≡ true
ended_is None x h = absurd (none≢some x h)
ended_is (Some o) x h = refl

some_size : (o : Option Gathering) → is_some o ≡ true → option_map (λ (g : Gathering). g.size) o ≡ Some (maybe 0 (λ (g : Gathering). g.size) o)
some_size None h = absurd (true≢false (sym h))
some_size (Some o) h = refl

has_size : (n : ℕ) (o : Option Gathering) → nat_lt n (maybe 0 (λ (g : Gathering). g.size) o) ≡ true → is_some o ≡ true
has_size n None h = absurd (omega (arith, ltb-true n 0 h))
has_size n (Some o) h = refl

-- the loop whose iterations are awaited is the one that was entered last
abbrev pub JoinFits : runs.Log Begin Values → Path → Ask → Type 0
JoinFits log q (JoinsAll loop) = runs.turns log q ≡ loop.total
JoinFits log q _ = Unit {0}

-- a buffer that is made has the cells that are foreseen
abbrev pub AllocFits : (MadeName → ℕ → Bool) → Path → ℕ → Ask → Type 0
AllocFits ext q k (Allocs dims) = (i : ℕ) → ext (Made q k) i ≡ nat_lt i (product dims)
AllocFits ext q k _ = Unit {0}

-- the rank of an add is read
abbrev pub IsUsed : Ask → Type 0
IsUsed (Adds g x used) = used ≡ true
IsUsed _ = Unit {0}

joined_reply : (q : Path) (k : ℕ) (loop : Loop) (b : Bool) → reply q k (JoinsAll loop) (runs.unless_failed b) ≡ world.unless_failed b
joined_reply q k loop true = refl
joined_reply q k loop false = refl

awaited_reply : (q : Path) (k : ℕ) (x : ElementName) (o : Option Outcome) → reply q k (AwaitsOne x) (runs.awaited (option_map ended_as o)) ≡ world.awaited x o
awaited_reply q k (Token p) None = refl
awaited_reply q k (Token p) (Some (Gave vs)) = refl
awaited_reply q k (Token p) (Some (FailedAt at)) = refl
awaited_reply q k (Value p j) None = refl
awaited_reply q k (Value p j) (Some (Gave vs)) = refl
awaited_reply q k (Value p j) (Some (FailedAt at)) = refl

all_reply : (q : Path) (k : ℕ) (g : MadeName) (b : Bool) → reply q k (AwaitsAll g) (runs.unless_failed b) ≡ world.unless_failed b
all_reply q k g true = refl
all_reply q k g false = refl

module _ (p : Program) (P : one.Program Begin Values) (args : List ArgValue) (ext : MadeName → ℕ → Bool) (w : World) (log : runs.Log Begin Values) (s : Shared P args ext w log) where
  ended_there : (r : Path) → has_ended w r ≡ true → runs.Ended log r
  ended_there r h = let x = is_ended (world.outcome w r) h in (x.0, s.outcomes r ∙ x.1)

  there_ended : (r : Path) → runs.Ended log r → has_ended w r ≡ true
  there_ended r h = ended_is (world.outcome w r) h.0 (sym (s.outcomes r) ∙ h.1)

  good_there : (r : Path) → world.is_good (world.outcome w r) ≡ one.is_good (runs.outcome log r)
  good_there r = good_same (world.outcome w r) ∙ ap one.is_good (sym (s.outcomes r))

  size_there : (g : MadeName) → Grp w g → runs.size log g ≡ Some (world.size w g)
  size_there (Argument j) h = (s.sizes (Argument j)).1 ∙ ap Some (sym (ap (maybe 0 (λ (g : Gathering). g.size)) (s.sizes (Argument j)).0))
  size_there (Made r n) h = s.sizes (Made r n) ∙ some_size (group_at w (Made r n)) h

  many : (g : MadeName) → length (world.members w g) ≡ length (runs.members log g)
  many g = ap length (s.members g) ∙ turned_length (runs.members log g)

  all_there : (g : MadeName) → world.all_of (λ x. has_ended w (maker x)) (world.members w g) ≡ runs.all_of (λ x. has_ended w (maker x)) (runs.members log g)
  all_there g = ap (world.all_of (λ x. has_ended w (maker x))) (s.members g) ∙ all_turned (λ x. has_ended w (maker x)) (λ x. has_ended w (maker x)) (λ x. refl) (runs.members log g)

  module _ (q : Path) (k : ℕ) (num : k ≡ runs.taken log q) where
    can_join : (loop : Loop) → runs.turns log q ≡ loop.total → world.all_below (λ i. has_ended w (iteration_of q k i)) loop.total ≡ true → (i : ℕ) → i < runs.turns log q → runs.Ended log (iteration_of q (runs.taken log q) i)
    can_join loop j e i l = subst (λ n. runs.Ended log (iteration_of q n i)) num (ended_there (iteration_of q k i) (below_each (λ i. has_ended w (iteration_of q k i)) loop.total e i (omega (arith, l, j))))

    join_can : (loop : Loop) → runs.turns log q ≡ loop.total → ((i : ℕ) → i < runs.turns log q → runs.Ended log (iteration_of q (runs.taken log q) i)) → world.all_below (λ i. has_ended w (iteration_of q k i)) loop.total ≡ true
    join_can loop j c = each_below (λ i. has_ended w (iteration_of q k i)) loop.total (λ i l. there_ended (iteration_of q k i) (subst (λ n. runs.Ended log (iteration_of q n i)) (sym num) (c i (omega (arith, l, j)))))

    pub can_of : (a ask : Ask) → LikeAsk p a ask → OkAsk p (Buf w) (Grp w) tt tt ask → JoinFits log q ask → enabled w q k ask ≡ true → runs.Can log q (clipped ext (asked q (suc k) a))
    can_of a ask (like.same (Adds g x used) z) ok j e = record { most = world.size w g; created = size_there g ok; room = omega (arith, many g, ltb-true (length (world.members w g)) (world.size w g) e) }
    can_of a ask (like.same (AwaitsOne x) z) ok j e = ended_there (maker x) e
    can_of a ask (like.same (AwaitsAll g) z) ok j e =
        let two = and_both (nat_le (world.size w g) (length (world.members w g))) (world.all_of (λ x. has_ended w (maker x)) (world.members w g)) e in
        record {
          most = world.size w g;
          created = size_there g ok;
          full = omega (arith, many g, leb-true (world.size w g) (length (world.members w g)) two.0);
          ended = each_map (λ x. has_ended w (maker x) ≡ true) (λ x. runs.Ended log (maker x)) (runs.members log g) (λ x h. ended_there (maker x) h) (all_each (λ x. has_ended w (maker x)) (runs.members log g) (sym (all_there g) ∙ two.1));
        }
    can_of a ask (like.same (JoinsAll loop) z) ok j e = can_join loop j e
    can_of a ask (like.joins_all l m h) ok j e = can_join m j e
    can_of a ask (like.same (Reads b i) z) ok j e = tt
    can_of a ask (like.same (Writes b i n) z) ok j e = tt
    can_of a ask (like.same (Allocs dims) z) ok j e = tt
    can_of a ask (like.same (Creates n) z) ok j e = tt
    can_of a ask (like.same (Launches t r) z) ok j e = tt
    can_of a ask (like.same (Enters loop) z) ok j e = tt
    can_of a ask (like.launches t u r h) ok j e = tt
    can_of a ask (like.enters l m h) ok j e = tt

    room_enabled : (g : MadeName) → Grp w g → runs.HasRoom log g → nat_lt (length (world.members w g)) (world.size w g) ≡ true
    room_enabled g ok c = lt-ltb (length (world.members w g)) (world.size w g) (omega (arith, many g, c.room, some_inj c.most (world.size w g) (sym c.created ∙ size_there g ok)))

    pub of_can : (a ask : Ask) → LikeAsk p a ask → OkAsk p (Buf w) (Grp w) tt tt ask → JoinFits log q ask → runs.Can log q (clipped ext (asked q (suc k) a)) → enabled w q k ask ≡ true
    of_can a ask (like.same (Adds g x used) z) ok j c = room_enabled g ok c
    of_can a ask (like.same (AwaitsOne x) z) ok j c = there_ended (maker x) c
    of_can a ask (like.same (AwaitsAll g) z) ok j c =
        ap (λ b. b && world.all_of (λ x. has_ended w (maker x)) (world.members w g)) (le-leb (world.size w g) (length (world.members w g)) (omega (arith, many g, c.full, some_inj c.most (world.size w g) (sym c.created ∙ size_there g ok))))
        ∙ (all_there g ∙ each_all (λ x. has_ended w (maker x)) (runs.members log g) (each_map (λ x. runs.Ended log (maker x)) (λ x. has_ended w (maker x) ≡ true) (runs.members log g) (λ x h. there_ended (maker x) h) c.ended))
    of_can a ask (like.same (JoinsAll loop) z) ok j c = join_can loop j c
    of_can a ask (like.joins_all l m h) ok j c = join_can m j c
    of_can a ask (like.same (Reads b i) z) ok j c = refl
    of_can a ask (like.same (Writes b i n) z) ok j c = refl
    of_can a ask (like.same (Allocs dims) z) ok j c = refl
    of_can a ask (like.same (Creates n) z) ok j c = refl
    of_can a ask (like.same (Launches t r) z) ok j c = refl
    of_can a ask (like.same (Enters loop) z) ok j c = refl
    of_can a ask (like.launches t u r h) ok j c = refl
    of_can a ask (like.enters l m h) ok j c = refl

    -- ---- answers

    join_answer : (loop : Loop) → runs.turns log q ≡ loop.total →
        runs.all_below (λ i. one.is_good (runs.outcome log (iteration_of q (runs.taken log q) i))) (runs.turns log q) ≡ world.all_below (λ i. world.is_good (world.outcome w (iteration_of q k i))) loop.total
    join_answer loop j =
        ap (runs.all_below (λ i. one.is_good (runs.outcome log (iteration_of q (runs.taken log q) i)))) j
        ∙ (ap (λ n. runs.all_below (λ i. one.is_good (runs.outcome log (iteration_of q n i))) loop.total) (sym num)
        ∙ sym (below_agree (λ i. world.is_good (world.outcome w (iteration_of q k i))) (λ i. one.is_good (runs.outcome log (iteration_of q k i))) (λ i. good_there (iteration_of q k i)) loop.total))

    pub answer_is : (a ask : Ask) → LikeAsk p a ask → JoinFits log q ask → IsUsed ask → reply q (suc k) ask (runs.answer P log q (clipped ext (asked q (suc k) a))) ≡ world.answer w q k ask
    answer_is a ask (like.same (Reads b i) z) j u = ap (λ n. Some (Number n ∷ [])) (s.cells b i)
    answer_is a ask (like.same (Writes b i n) z) j u = refl
    answer_is a ask (like.same (Allocs dims) z) j u = ap (λ n. Some (Memory (Made q n) dims ∷ [])) (omega arith)
    answer_is a ask (like.same (Creates n) z) j u = ap (λ n. Some (Group (Made q n) ∷ [])) (omega arith)
    answer_is a ask (like.same (Adds g x true) z) j u = ap (λ n. Some (Number n ∷ [])) (sym (many g))
    answer_is a ask (like.same (Adds g x false) z) j u = absurd (true≢false (sym u))
    answer_is a ask (like.same (Launches t r) z) j u = ap (λ n. Some (world.elements_of (q ++ n ∷ []) r)) (omega arith)
    answer_is a ask (like.same (Enters loop) z) j u = refl
    answer_is a ask (like.same (JoinsAll loop) z) j u = ap (λ b. reply q (suc k) (JoinsAll loop) (runs.unless_failed b)) (join_answer loop j) ∙ joined_reply q (suc k) loop (world.all_below (λ i. world.is_good (world.outcome w (iteration_of q k i))) loop.total)
    answer_is a ask (like.same (AwaitsOne x) z) j u = ap (λ o. reply q (suc k) (AwaitsOne x) (runs.awaited o)) (s.outcomes (maker x)) ∙ awaited_reply q (suc k) x (world.outcome w (maker x))
    answer_is a ask (like.same (AwaitsAll g) z) j u =
        ap (λ b. reply q (suc k) (AwaitsAll g) (runs.unless_failed b)) (sym (ap (world.all_of (λ x. world.is_good (world.outcome w (maker x)))) (s.members g) ∙ all_turned (λ x. world.is_good (world.outcome w (maker x))) (λ x. one.is_good (runs.outcome log (maker x))) (λ x. good_there (maker x)) (runs.members log g)))
        ∙ all_reply q (suc k) g (world.all_of (λ x. world.is_good (world.outcome w (maker x))) (world.members w g))
    answer_is a ask (like.launches t u r h) j v = ap (λ n. Some (world.elements_of (q ++ n ∷ []) r)) (omega arith)
    answer_is a ask (like.enters l m h) j u = refl
    answer_is a ask (like.joins_all l m h) j u = ap (λ b. reply q (suc k) (JoinsAll m) (runs.unless_failed b)) (join_answer m j) ∙ joined_reply q (suc k) m (world.all_below (λ i. world.is_good (world.outcome w (iteration_of q k i))) m.total)

    -- ---- what is shared behind the action

    module _ (e : runs.Event Begin Values) (of : e.task ≡ q) (lives : runs.outcome log e.task ≡ None) where
      plain : (b : one.Act Begin Values) → e.act ≡ b → Plain b → Shared P args ext w (e ∷ log)
      plain b h m = shared_plain P args ext w log e s (subst Plain (sym h) m) lives

      pub shared_after : (a ask : Ask) → LikeAsk p a ask → OkAsk p (Buf w) (Grp w) tt tt ask → enabled w q k ask ≡ true → AllocFits ext q (suc k) ask → e.act ≡ clipped ext (asked q (suc k) a) → Shared P args ext (after w q k ask) (e ∷ log)
      shared_after a ask (like.same (Writes b i n) z) ok h f t = shared_written P args ext w log e s b i n t ok lives
      shared_after a ask (like.same (Allocs dims) z) ok h f t = shared_made P args ext w log e s q (k + 1) dims of (omega (arith, num)) t (subst (λ n. (i : ℕ) → ext (Made q n) i ≡ nat_lt i (product dims)) (omega arith) f) lives
      shared_after a ask (like.same (Creates n) z) ok h f t = shared_created P args ext w log e s q (k + 1) n of (omega (arith, num)) t lives
      shared_after a ask (like.same (Adds g x used) z) ok h f t = shared_joined P args ext w log e s g x used t (has_size (length (world.members w g)) (group_at w g) h) lives
      shared_after a ask (like.same (Reads b i) z) ok h f t = plain (one.Reads b i) t (record { writes = λ b i. refl; joins = λ g. refl; sizes = refl; ends = refl })
      shared_after a ask (like.same (Launches c r) z) ok h f t = plain (clipped ext (asked q (suc k) a)) t (record { writes = λ b i. refl; joins = λ g. refl; sizes = refl; ends = refl })
      shared_after a ask (like.same (Enters loop) z) ok h f t = plain (clipped ext (asked q (suc k) a)) t (record { writes = λ b i. refl; joins = λ g. refl; sizes = refl; ends = refl })
      shared_after a ask (like.same (JoinsAll loop) z) ok h f t = plain one.JoinsAll t (record { writes = λ b i. refl; joins = λ g. refl; sizes = refl; ends = refl })
      shared_after a ask (like.same (AwaitsOne x) z) ok h f t = plain (one.AwaitsOne x) t (record { writes = λ b i. refl; joins = λ g. refl; sizes = refl; ends = refl })
      shared_after a ask (like.same (AwaitsAll g) z) ok h f t = plain (one.AwaitsAll g) t (record { writes = λ b i. refl; joins = λ g. refl; sizes = refl; ends = refl })
      shared_after a ask (like.launches c u r m) ok h f t = plain (clipped ext (asked q (suc k) a)) t (record { writes = λ b i. refl; joins = λ g. refl; sizes = refl; ends = refl })
      shared_after a ask (like.enters l m x) ok h f t = plain (clipped ext (asked q (suc k) a)) t (record { writes = λ b i. refl; joins = λ g. refl; sizes = refl; ends = refl })
      shared_after a ask (like.joins_all l m x) ok h f t = plain one.JoinsAll t (record { writes = λ b i. refl; joins = λ g. refl; sizes = refl; ends = refl })
