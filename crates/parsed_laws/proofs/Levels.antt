-- All operations of a program that is read stand at the level of its text.
use Rattle.std.proofs.Common.{◌≡◌, ◌≤◌, ℕ, zero, suc, true, List, [], ◌∷◌, ◌++◌, map, slice_get, Some, refl, sym, ap, ◌∙◌, subst}
use Rattle.op_table.specs.declared.kind.OpKind.{OpKind}
use Rattle.op_table.specs.declared.rows.Level.{Level}
use Rattle.op_table.specs.Rows.{place_of, stands_at}
use Rattle.ir_forms.specs.declared.ops.Func.{Func}
use Rattle.ir_forms.specs.declared.ops.Module.{Module}
use Rattle.ir_forms.specs.declared.ops.Op.{Op, Op-F, roll-Op}
use Rattle.ir_forms.specs.declared.ops.Op.TheFolds.{fold-roll-Op, fold-roll-Region}
use Rattle.ir_forms.specs.declared.ops.Region.{Region, Region-F, roll-Region}
use Rattle.ir_forms.specs.Numbers.{unnumbered_region, unnumbered_func, NumbersAlone}
use Rattle.ir_verify.specs.Laws.{HasKind, LevelIsLeast}
use Rattle.ir_verify.specs.Levels.{joined, op_kinds, region_kinds, kinds_at, kinds_in, kinds_of, level_of}
use Rattle.source_meaning.specs.TaskOrder.{Each}
use Rattle.check_laws.proofs.Defined.{each_append}
use Rattle.mlir_print.specs.Printable.{Scope}
use Rattle.read_forms.proofs.Outcomes.{FuncShows, FuncsShow}
use Rattle.read_forms.proofs.Shows.{Piece, Shows}
use Rattle.parsed_laws.specs.Levels.{AcceptsAtLevel}
use Rattle.parsed_laws.proofs.Forms.{text_shows}
use Rattle.parsed_laws.proofs.Numbered.{AreAlike, alike, each-alike, same_inside}

abbrev AllStand : Level → List OpKind → Type 0
AllStand level = Each (λ k. stands_at k level ≡ true)

abbrev kinds_of_piece : Piece → List OpKind
kinds_of_piece (Piece.Ops ops) = joined (map kinds_at ops)
kinds_of_piece (Piece.Regions k types i regions) = joined (map kinds_in regions)

op-kinds : (x : Op-F Op Region) → kinds_at (roll-Op x) ≡ x.kind ∷ joined (map kinds_in x.regions)
unfolding kinds_at kinds_in
op-kinds x = fold-roll-Op (List OpKind) (List OpKind) op_kinds region_kinds x

region-kinds : (y : Region-F Op Region) → kinds_in (roll-Region y) ≡ joined (map kinds_at y.ops)
unfolding kinds_at kinds_in
region-kinds y = fold-roll-Region (List OpKind) (List OpKind) op_kinds region_kinds y

all-stand : (level : Level) (p : Piece) (a b : Scope) → Shows level p a b → AllStand level (kinds_of_piece p)
all-stand level _ _ _ (Shows.no_ops s) = tt
all-stand level _ _ _ (Shows.one_op x os s inner end st f n r u regions more) =
    each_append (λ k. stands_at k level ≡ true) (kinds_at (roll-Op x)) (joined (map kinds_at os))
    (subst (AllStand level) (sym (op-kinds x)) (st, all-stand level _ _ _ regions))
    (all-stand level _ _ _ more)
all-stand level _ _ _ (Shows.no_regions k ts i s) = tt
all-stand level _ _ _ (Shows.region k ts i y rs s inner end n e ops more) =
    each_append (λ k. stands_at k level ≡ true) (kinds_in (roll-Region y)) (joined (map kinds_in rs))
    (subst (AllStand level) (sym (region-kinds y)) (all-stand level _ _ _ ops))
    (all-stand level _ _ _ more)

abbrev BodyStands : Level → Func → Type 0
BodyStands level f = AllStand level (kinds_in f.body)

body-stands : (level : Level) (f : Func) → FuncShows level f → BodyStands level f
body-stands level f h =
    let y : Region-F Op Region = record { params = []; ops = h.ops } in
    subst (AllStand level) (sym (ap kinds_in h.body ∙ region-kinds y)) (all-stand level _ _ _ h.shows)

bodies-stand : (level : Level) (fs : List Func) → FuncsShow level fs → Each (BodyStands level) fs
bodies-stand level [] h = tt
bodies-stand level (f ∷ fs) h = (body-stands level f h.0, bodies-stand level fs h.1)

-- ---- numbers of operations change no kind

same-kinds : (r : Region) → kinds_in (unnumbered_region r) ≡ kinds_in r
unfolding kinds_in
same-kinds = same_inside op_kinds region_kinds (λ x. refl)

stands-alike : (level : Level) (f g : Func) → AreAlike f g → BodyStands level f → BodyStands level g
stands-alike level f g e = subst (AllStand level) (alike (λ f. kinds_in f.body) (λ f. same-kinds f.body) f g e)

-- ---- the program

of-all : (level : Level) (fs : List Func) → Each (BodyStands level) fs → AllStand level (kinds_of fs)
of-all level [] h = tt
of-all level (f ∷ fs) h = each_append (λ k. stands_at k level ≡ true) (kinds_in f.body) (kinds_of fs) h.0 (of-all level fs h.1)

one-stands : (level : Level) (ks : List OpKind) (i : ℕ) (k : OpKind) → AllStand level ks → slice_get ks i ≡ Some k → stands_at k level ≡ true
one-stands level [] i k h e = absurd cc
one-stands level (l ∷ ks) zero k h e = let same : l ≡ k = cc in subst (λ j. stands_at j level ≡ true) same h.0
one-stands level (l ∷ ks) (suc i) k h e = one-stands level ks i k h.1 e

pub accepts_at_level : NumbersAlone → LevelIsLeast → AcceptsAtLevel
accepts_at_level alone least limits level text program h =
    let same : map unnumbered_func program.funcs ≡ map unnumbered_func h.m.funcs =
    ap (λ (p : Module). map unnumbered_func p.funcs) h.numbered ∙ ap (λ (p : Module). p.funcs) (alone h.m) in
    let bodies = each-alike (BodyStands level) (stands-alike level) h.m.funcs program.funcs same (bodies-stand level h.m.funcs (text_shows limits level text h.m h.read.few h.read.is)) in
    (least program.funcs).1 level (λ k has. one-stands level (kinds_of program.funcs) has.at k (of-all level program.funcs bodies) has.is)
