-- Operations that are printed but for operands that may be no value.
use Rattle.std.proofs.Common.{◌≡◌, ◌<◌, ℕ, ◌+◌, Bool, true, ◌&&◌, List, [], ◌∷◌, ◌++◌, length, map, sym, ap, ◌∙◌, subst}
use Rattle.std.specs.Prelude.{IsTrue}
use Rattle.op_table.specs.declared.kind.OpKind.{OpKind}
use Rattle.op_table.specs.declared.rows.Level.{Level}
use Rattle.op_table.specs.Rows.{stands_at}
use Rattle.ir_forms.specs.declared.ops.Op.{Op, Op-F, out-Op, roll-Op, out-roll-Op}
use Rattle.ir_forms.specs.declared.ops.Op.TheFolds.{fold-roll-Op, fold-roll-Region}
use Rattle.ir_forms.specs.declared.ops.Region.{Region, Region-F, out-Region, roll-Region, out-roll-Region}
use Rattle.ir_forms.specs.declared.ops.Attr.{Attr}
use Rattle.ir_forms.specs.declared.types.Ty.{Ty}
use Rattle.ir_forms.specs.Ops.{kind_of}
use Rattle.mlir_print.specs.Printable.{Has, HasForm, IsEnded, Scope, numbers, NumberOn, AreSeen, defining, Part, Prints, types_of, param_types}
use Rattle.read_forms.specs.Known.{all_known, all_true, op_knows, region_knows, knows_all, knows_all_in}
use Rattle.module_grammar.proofs.Ends.{and-left, and-right}
use Rattle.read_forms.proofs.Scopes.{AreSeenOrNot, are-seen}

abbrev pub Node : Type 0
Node = Op-F Op Region

-- operations, or the regions from a place on of an operation of this kind with these types of results
pub data Piece : Type 0 where
  Ops : List Op → Piece
  Regions : OpKind → List Ty → ℕ → List Region → Piece

pub data Shows (level : Level) : Piece → Scope → Scope → Type 0 where
  no_ops : (s : Scope) → Shows level (Ops []) s s
  one_op : (x : Node) (os : List Op) (s inner end : Scope) → stands_at x.kind level ≡ true → HasForm x.kind (roll-Op x)
      → x.at < 4294967296 → NumberOn s.next x.results → AreSeenOrNot s.seen x.operands
      → Shows level (Regions x.kind x.types 0 x.regions) (record { next = s.next + length x.results; seen = s.seen }) inner
      → Shows level (Ops os) (record { next = inner.next; seen = s.seen ++ numbers x.results }) end
      → Shows level (Ops (roll-Op x ∷ os)) s end
  no_regions : (k : OpKind) (ts : List Ty) (i : ℕ) (s : Scope) → Shows level (Regions k ts i []) s s
  region : (k : OpKind) (ts : List Ty) (i : ℕ) (y : Region-F Op Region) (rs : List Region) (s inner end : Scope)
      → NumberOn s.next (map (λ p. p.0) y.params) → IsEnded k i ts y.ops
      → Shows level (Ops y.ops) (defining s (map (λ p. p.0) y.params)) inner
      → Shows level (Regions k ts (i + 1) rs) (record { next = inner.next; seen = s.seen }) end
      → Shows level (Regions k ts i (roll-Region y ∷ rs)) s end

-- ---- one after the other

abbrev Goes_on : Level → Piece → Scope → Scope → Type 0
Goes_on level (Piece.Ops xs) a b = (ys : List Op) (c : Scope) → Shows level (Piece.Ops ys) b c → Shows level (Piece.Ops (xs ++ ys)) a c
Goes_on level (Piece.Regions k ts i rs) a b = Unit {0}

goes-on : (level : Level) (p : Piece) (a b : Scope) → Shows level p a b → Goes_on level p a b
goes-on level _ _ _ (Shows.no_ops s) = λ ys c h. h
goes-on level _ _ _ (Shows.one_op x os s inner end st f n r u regions more) =
    λ ys c h. Shows.one_op x (os ++ ys) s inner c st f n r u regions (goes-on level _ _ _ more ys c h)
goes-on level _ _ _ (Shows.no_regions k ts i s) = tt
goes-on level _ _ _ (Shows.region k ts i y rs s inner end n e ops more) = tt

pub shows-both : (level : Level) (xs ys : List Op) (a b c : Scope) → Shows level (Piece.Ops xs) a b → Shows level (Piece.Ops ys) b c
    → Shows level (Piece.Ops (xs ++ ys)) a c
shows-both level xs ys a b c h i = goes-on level (Piece.Ops xs) a b h ys c i

-- ---- what has no unknown value is printed

node-knows : (x : Node) → knows_all (roll-Op x) ≡ (op_knows (record { kind = x.kind; at = x.at; operands = x.operands; groups = x.groups; written = x.written; results = x.results; types = x.types; attr = x.attr; regions = map knows_all_in x.regions }))
node-knows x = fold-roll-Op Bool Bool op_knows region_knows x

pub region-knows : (y : Region-F Op Region) → knows_all_in (roll-Region y) ≡ all_true (map knows_all y.ops)
region-knows y = fold-roll-Region Bool Bool op_knows region_knows y

print-op : (level : Level) (o : Op) (os : List Op) (s inner end : Scope) (x : Node) → out-Op o ≡ x → IsTrue (stands_at x.kind level) → HasForm x.kind o
    → x.at < 4294967296 → NumberOn s.next x.results → AreSeen s.seen x.operands
    → Prints level (Part.Regions o 0 x.regions) (record { next = s.next + length x.results; seen = s.seen }) inner
    → Prints level (Part.Ops os) (record { next = inner.next; seen = s.seen ++ numbers x.results }) end
    → Prints level (Part.Ops (o ∷ os)) s end
print-op level o os s inner end x e =
    subst (λ (z : Node). IsTrue (stands_at z.kind level) → HasForm z.kind o → z.at < 4294967296 → NumberOn s.next z.results → AreSeen s.seen z.operands
    → Prints level (Part.Regions o 0 z.regions) (record { next = s.next + length z.results; seen = s.seen }) inner
    → Prints level (Part.Ops os) (record { next = inner.next; seen = s.seen ++ numbers z.results }) end
    → Prints level (Part.Ops (o ∷ os)) s end) e
    (λ st f n r u regions more. Prints.operation o os s inner end st f n r u regions more)

print-region : (level : Level) (o : Op) (i : ℕ) (r : Region) (rs : List Region) (s inner end : Scope) (y : Region-F Op Region) → out-Region r ≡ y
    → NumberOn s.next (map (λ p. p.0) y.params) → IsEnded (kind_of o) i (types_of o) y.ops
    → Prints level (Part.Ops y.ops) (defining s (map (λ p. p.0) y.params)) inner
    → Prints level (Part.Regions o (i + 1) rs) (record { next = inner.next; seen = s.seen }) end
    → Prints level (Part.Regions o i (r ∷ rs)) s end
print-region level o i r rs s inner end y e =
    subst (λ (z : Region-F Op Region). NumberOn s.next (map (λ p. p.0) z.params) → IsEnded (kind_of o) i (types_of o) z.ops
    → Prints level (Part.Ops z.ops) (defining s (map (λ p. p.0) z.params)) inner
    → Prints level (Part.Regions o (i + 1) rs) (record { next = inner.next; seen = s.seen }) end
    → Prints level (Part.Regions o i (r ∷ rs)) s end) e
    (λ n f ops more. Prints.region o i r rs s inner end n f ops more)

abbrev Printed : Level → Piece → Scope → Scope → Type 0
Printed level (Piece.Ops os) a b = all_true (map knows_all os) ≡ true → Prints level (Part.Ops os) a b
Printed level (Piece.Regions k ts i rs) a b =
    (o : Op) → kind_of o ≡ k → types_of o ≡ ts → all_true (map knows_all_in rs) ≡ true → Prints level (Part.Regions o i rs) a b

pub shown-prints : (level : Level) (p : Piece) (a b : Scope) → Shows level p a b → Printed level p a b
shown-prints level _ _ _ (Shows.no_ops s) = λ k. Prints.no_ops s
shown-prints level _ _ _ (Shows.one_op x os s inner end st f n r u regions more) =
    λ k. let here : knows_all (roll-Op x) ≡ true = and-left (knows_all (roll-Op x)) (all_true (map knows_all os)) k in
    let rest : all_true (map knows_all os) ≡ true = and-right (knows_all (roll-Op x)) (all_true (map knows_all os)) k in
    let both : all_known x.operands && all_true (map knows_all_in x.regions) ≡ true = sym (node-knows x) ∙ here in
    print-op level (roll-Op x) os s inner end x (out-roll-Op x) st f n r
    (are-seen s.seen x.operands u (and-left (all_known x.operands) (all_true (map knows_all_in x.regions)) both))
    (shown-prints level _ _ _ regions (roll-Op x) (ap (λ (z : Node). z.kind) (out-roll-Op x)) (ap (λ (z : Node). z.types) (out-roll-Op x))
    (and-right (all_known x.operands) (all_true (map knows_all_in x.regions)) both))
    (shown-prints level _ _ _ more rest)
shown-prints level _ _ _ (Shows.no_regions k ts i s) = λ o e f h. Prints.no_regions o i s
shown-prints level _ _ _ (Shows.region k ts i y rs s inner end n e ops more) =
    λ o same_kind same_types h.
    let here : knows_all_in (roll-Region y) ≡ true = and-left (knows_all_in (roll-Region y)) (all_true (map knows_all_in rs)) h in
    let rest : all_true (map knows_all_in rs) ≡ true = and-right (knows_all_in (roll-Region y)) (all_true (map knows_all_in rs)) h in
    print-region level o i (roll-Region y) rs s inner end y (out-roll-Region y) n
    (subst (λ (z : OpKind). IsEnded z i (types_of o) y.ops) (sym same_kind) (subst (λ (z : List Ty). IsEnded k i z y.ops) (sym same_types) e))
    (shown-prints level _ _ _ ops (sym (region-knows y) ∙ here))
    (shown-prints level _ _ _ more o same_kind same_types rest)

-- ---- the parts of an operation that is made

abbrev pub HasParts : Node → ℕ → Attr → List ℕ → List Ty → List Ty → List (List Ty) → Type 0
HasParts x n a groups written types params =
    (length x.operands ≡ n) × (x.attr ≡ a) × (x.groups ≡ groups) × (x.written ≡ written) × (x.types ≡ types) × (map param_types x.regions ≡ params)

has-of : (o : Op) (x : Node) (n : ℕ) (a : Attr) (groups : List ℕ) (written types : List Ty) (params : List (List Ty)) → out-Op o ≡ x
    → HasParts x n a groups written types params → Has o n a groups written types params
has-of o x n a groups written types params e =
    subst (λ (z : Node). HasParts z n a groups written types params → Has o n a groups written types params) e
    (λ h. record { operand_count = h.0; attr_is = h.1; groups_are = h.2; written_are = h.3; types_are = h.4; params_are = h.5 })

pub has : (x : Node) (n : ℕ) (a : Attr) (groups : List ℕ) (written types : List Ty) (params : List (List Ty))
    → HasParts x n a groups written types params → Has (roll-Op x) n a groups written types params
has x n a groups written types params h = has-of (roll-Op x) x n a groups written types params (out-roll-Op x) h

pub region-types : (y : Region-F Op Region) → param_types (roll-Region y) ≡ map (λ p. p.1) y.params
region-types y = ap (λ (z : Region-F Op Region). map (λ p. p.1) z.params) (out-roll-Region y)
