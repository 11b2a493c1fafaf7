-- How what registers own changes.
use Rattle.std.specs.Prelude.{◌≡◌, ℕ, ◌+◌, List}
use Rattle.low_forms.specs.Edges.{count_to}
use Rattle.async_objects.specs.declared.kinds.Val.{Val}
use Rattle.task_stack.specs.Registers.{held, put}
use Rattle.count_sums.specs.Sums.{total, point, share, owned}

abbrev pub WritesKeep : Type 0
WritesKeep = (own : ℕ → ℕ) (o : ℕ) (regs : List Val) (r : ℕ) (v : Val) → own r ≡ 0 → owned own o (put regs r v) ≡ owned own o regs

abbrev pub PointsMove : Type 0
PointsMove = (own : ℕ → ℕ) (o : ℕ) (regs : List Val) (r n : ℕ) → owned (λ q. own q + point r n q) o regs ≡ owned own o regs + share o (held regs r) n

abbrev pub CountsMove : Type 0
CountsMove = (own : ℕ → ℕ) (o : ℕ) (regs : List Val) (rs : List ℕ) → owned (λ q. own q + count_to q rs) o regs ≡ owned own o regs + total (λ r. share o (held regs r) 1) rs
