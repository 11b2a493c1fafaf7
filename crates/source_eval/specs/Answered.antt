-- What came of what a task asked.
use Rattle.std.specs.Prelude.{◌≡◌, ℕ, ◌+◌, [], ◌∷◌, Some, None}
use Rattle.ir_forms.specs.Names.{Path, launched_by}
use Rattle.source_meaning.specs.Values.{maybe}
use Rattle.source_meaning.specs.Tasks.{Ask}
use Rattle.source_meaning.specs.World.{World, answer, after, shown}
use Rattle.source_meaning.specs.Sequential.{born, stops, launched}
use Rattle.source_state.specs.Seen.{Alike}
use Rattle.source_eval.specs.declared.answers.Answered.{Answered}
use Rattle.source_eval.specs.declared.answers.Answered.TheVariants as answered

-- the action that a task takes after k others goes so in the world w, and leaves one like the last; or it stops the run
abbrev pub IsAnswered : Answered → World → World → Path → ℕ → Ask → Type 0
IsAnswered (answered.Goes action given child) new w p k ask =
    (stops w ask ≡ None) × (given ≡ answer w p k ask) × (action ≡ shown ask) × Alike new (after w p k ask)
    × (maybe [] (λ t. born (launched_by p (k + 1)) t ∷ []) child ≡ launched p (k + 1) ask)
IsAnswered (answered.Stops end) new w p k ask = stops w ask ≡ Some end
