-- A program's tasks agree with themselves.
use Rattle.std.specs.Prelude.{⊤}
use Rattle.std.proofs.Common.{◌≡◌, refl, subst}
use Rattle.source_meaning.specs.Tasks.{Loop, Task, Ask, Reads, Writes, Allocs, Creates, Adds, Launches, Enters, JoinsAll, AwaitsOne, AwaitsAll, Next, Goes, Asks, Ends}
use Rattle.source_meaning.specs.Steps.{next}
use Rattle.source_meaning.specs.World.{World}
use Rattle.carry_laws.specs.Agreement.{LikeLoop, LikeAsk, same, launches, enters, joins_all, LikeNext, goes, asks, ends, both}
use Rattle.carry_laws.specs.Instances.{ProgramAgreesWithItself}

abbrev Equal : Task → Task → Type 0
Equal t u = t ≡ u

abbrev Any : World → Type 0
Any w = ⊤

loop_itself : (l : Loop) → LikeLoop Equal l l
loop_itself l = record { total = refl; split = refl; iterations = λ i. refl }

ask_itself : (a : Ask) → LikeAsk Equal a a
ask_itself (Reads b i) = same (Reads b i) tt
ask_itself (Writes b i n) = same (Writes b i n) tt
ask_itself (Allocs dims) = same (Allocs dims) tt
ask_itself (Creates n) = same (Creates n) tt
ask_itself (Adds g x used) = same (Adds g x used) tt
ask_itself (Launches t r) = launches t t r refl
ask_itself (Enters l) = enters l l (loop_itself l)
ask_itself (JoinsAll l) = joins_all l l (loop_itself l)
ask_itself (AwaitsOne x) = same (AwaitsOne x) tt
ask_itself (AwaitsAll g) = same (AwaitsAll g) tt

next_itself : (n : Next) → LikeNext Equal Any n n
next_itself (Goes t) = goes t t refl
next_itself (Asks at a xs t) = asks at at a a xs xs t t (ask_itself a) (λ w q k any. (refl, tt))
next_itself (Ends o) = ends o (λ w q any. tt)

pub program_agrees_with_itself : ProgramAgreesWithItself
program_agrees_with_itself p entry args = record {
  starts = refl;
  kept = tt;
  meets = λ t u e there here. both t u (subst (λ x. LikeNext Equal Any (next p t) (next p x)) e (next_itself (next p t)));
  ends = λ w o. refl;
}
