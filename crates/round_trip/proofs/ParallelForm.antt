-- A parallel loop is read as what was printed.
use Rattle.std.proofs.Common.{◌≡◌, ◌<◌, ℕ, suc, ◌+◌, ◌-◌, ◌^◌, List, [], ◌∷◌, ◌++◌, map, take, drop, length, replicate, refl, sym, ap, ap₂, subst, ◌∙◌, append_assoc, arith, codes}
use Rattle.mlir_lex.specs.declared.kinds.TokenKind.TheVariants as kind
use Rattle.op_table.specs.declared.kind.OpKind.TheVariants as op
use Rattle.op_table.specs.declared.rows.Level.{Level}
use Rattle.ir_forms.specs.declared.types.Ty.{Ty}
use Rattle.ir_forms.specs.declared.types.Ty.TheVariants as ty
use Rattle.ir_forms.specs.declared.ops.Module.{Module}
use Rattle.ir_forms.specs.declared.ops.Op.{Op}
use Rattle.ir_forms.specs.declared.ops.Region.{Region}
use Rattle.ir_forms.specs.declared.ops.ValueNo.{ValueNo}
use Rattle.ir_forms.specs.declared.ops.Attr.TheVariants as attr
use Rattle.ir_forms.specs.Ops.{kind_of, operands_of, regions_of, ops_of}
use Rattle.module_grammar.specs.declared.state.Name.{Name}
use Rattle.module_grammar.specs.declared.state.OpenOp.{OpenOp}
use Rattle.module_grammar.specs.declared.symbols.Symbol.{Symbol}
use Rattle.module_grammar.specs.State.{as_number}
use Rattle.module_grammar.specs.Rules.{form, ends, region}
use Rattle.mlir_print.specs.Docs.{commas, more}
use Rattle.mlir_print.specs.Tokens.{value}
use Rattle.mlir_print.specs.Forms.{name_of_param}
use Rattle.mlir_print.specs.Printed.{printed_lines}
use Rattle.mlir_print.specs.Printable.{Scope, NumberOn, Has, HasForm, types_of, params_of, param_types}
use Rattle.round_trip.proofs.Core.{Word, Core}
use Rattle.round_trip.proofs.Machine.{Runs, Any, word, act}
use Rattle.round_trip.proofs.Docs.{onto, Plain}
use Rattle.round_trip.proofs.Values.{shown as shown_name, param_of, Finds}
use Rattle.round_trip.proofs.Segments.{mark, a-use, more-uses}
use Rattle.round_trip.proofs.Shapes.{op_with, blank, whole, whole-with, After}
use Rattle.round_trip.proofs.Scopes.{IsGood}
use Rattle.round_trip.proofs.Params.{firsts, seconds, an-index, more-indices, fresh-more}
use Rattle.round_trip.proofs.Regions.{Around, during, with_region, value_params}
use Rattle.round_trip.proofs.RegionForms.{RegionGoes, enter}
use Rattle.round_trip.proofs.OpenForms.{open_with, fresh-at, later, after-is, long-as, Counting, counting, first-of-all, drop-seam, finds-left, finds-right, second-size}
use Rattle.std.proofs.lemmas.List.{length-append, length-take-le, length-drop, take-append-drop}
use Rattle.std.proofs.Math.Seq.{take-append_seam, take-length}
use Rattle.module_grammar.specs.State.{ungrouped}
use Rattle.module_grammar.specs.Rules.{bounds}
use Rattle.mlir_print.specs.Forms.{values, parallel_form}
use Rattle.round_trip.proofs.RegionForms.{keeps-parallel}

abbrev with_group : Core → List ValueNo → Core
with_group c vs = record c { op = record (c.op) { operands = c.op.operands ++ vs; groups = c.op.groups ++ length vs ∷ [] } }

module _ {level : Level} {m : Module} where
  a-bounds : {k : List Symbol} (x : ValueNo) (xs : List ValueNo) (c : Core) (ws : List Word) → Finds c.visible (x ∷ xs)
      → as_number (ungrouped (length (c.op.operands ++ x ∷ xs)) c.op.groups) ≡ length (x ∷ xs)
      → Any level m k (with_group c (x ∷ xs)) ws
      → Runs level m (bounds ++ k) c (mark 40 ∷ onto (values (x ∷ xs)) (mark 41 ∷ ws))
  a-bounds {k} x xs c ws f sized runs =
      word refl (a-use x (onto (more value xs) (mark 41 ∷ ws)) f.0 (plain-uses xs ws) (λ p. more-uses xs _ (mark 41 ∷ ws) f.1 refl (λ q. word refl (act refl
      (subst (λ (y : Core). Runs level m k y ws)
      (sym (ap (λ (vs : List ValueNo). record c { passing = record q { last = mark 41 }; op = record (c.op) { operands = vs; groups = c.op.groups ++ as_number (ungrouped (length vs) c.op.groups) ∷ [] } }) (append_assoc c.op.operands (x ∷ []) xs)
      ∙ ap (λ (n : ℕ). record c { passing = record q { last = mark 41 }; op = record (c.op) { operands = c.op.operands ++ x ∷ xs; groups = c.op.groups ++ n ∷ [] } }) sized))
      (runs _))))))
    where
      plain-uses : (xs : List ValueNo) (ws : List Word) → Plain (onto (more value xs) (mark 41 ∷ ws))
      plain-uses [] ws = refl
      plain-uses (y ∷ ys) ws = refl

third-size : (xs ys zs : List ValueNo) → length zs < 2 ^ 32 → as_number (ungrouped (length ((xs ++ ys) ++ zs)) (length xs ∷ length ys ∷ [])) ≡ length zs
third-size xs ys zs h = omega (arith, length-append (xs ++ ys) zs, length-append xs ys)

-- the loop, with all that stands before its region
abbrev spread : ℕ → List Name → List ValueNo → List ValueNo → List ValueNo → List (ValueNo × Ty) → OpenOp
spread at rs xs ys zs ps = open_with op.ScfParallel at rs ((xs ++ ys) ++ zs) (length xs ∷ length ys ∷ length zs ∷ []) [] [] [] (map param_of ps)

module _ {level : Level} {m : Module} {k : List Symbol} (a : Around) (s : Scope) (begun : ℕ) (at : ℕ) (rs : List Name) (ws : List Word) (good : IsGood s) where
  pub spread-heads : (i : ValueNo) (ps : List (ValueNo × Ty)) (n : ℕ) (x y z : ValueNo) (xs ys zs : List ValueNo)
      → seconds ps ≡ replicate n ty.Index → NumberOn s.next (i ∷ firsts ps)
      → length (x ∷ xs) < 2 ^ 32 → length (y ∷ ys) < 2 ^ 32 → length (z ∷ zs) < 2 ^ 32
      → Finds (map shown_name s.seen) (x ∷ xs) → Finds (map shown_name s.seen) (y ∷ ys) → Finds (map shown_name s.seen) (z ∷ zs)
      → Any level m (region ++ k) (during a (later s ((i, ty.Index) ∷ ps)) begun (spread at rs (x ∷ xs) (y ∷ ys) (z ∷ zs) ((i, ty.Index) ∷ ps))) ws
      → Any level m (form op.ScfParallel ++ k) (during a s begun (blank op.ScfParallel at rs))
      (mark 40 ∷ onto (commas name_of_param ((i, ty.Index) ∷ ps)) (mark 41 ∷ mark 61 ∷ mark 40 ∷ onto (values (x ∷ xs)) (mark 41 ∷ (kind.Name, codes "to")
      ∷ mark 40 ∷ onto (values (y ∷ ys)) (mark 41 ∷ (kind.Name, codes "step") ∷ mark 40 ∷ onto (values (z ∷ zs)) (mark 41 ∷ ws)))))
  spread-heads i ps n x y z xs ys zs typed on hx hy hz fx fy fz runs p =
      let base : Core = during a s begun (blank op.ScfParallel at rs) in
      let fresh = fresh-at a s begun (blank op.ScfParallel at rs) good refl in
      let next : s.next + 1 + length ps ≡ s.next + length ((i, ty.Index) ∷ ps) = omega arith in
      let end : Core = during a (later s ((i, ty.Index) ∷ ps)) begun (spread at rs (x ∷ xs) (y ∷ ys) (z ∷ zs) ((i, ty.Index) ∷ ps)) in
      let first : as_number (length (x ∷ xs)) ≡ length (x ∷ xs) = omega arith in
      word refl (an-index _ _ i on.0 on.1 fresh (λ q1. more-indices ps n _ _ typed on.2 (fresh-more base i ty.Index fresh on.0) refl (λ q2. word refl (word refl
      (a-bounds x xs _ _ fx first (λ q3. word refl
      (a-bounds y ys _ _ fy (second-size (x ∷ xs) (y ∷ ys) hy) (λ q4. word refl
      (a-bounds z zs _ _ fz (third-size (x ∷ xs) (y ∷ ys) (z ∷ zs) hz) (λ q5.
      subst (λ (c : Core). Runs level m (region ++ k) c ws) (ap (λ (n : ℕ). record end { passing = q5; next = n }) (sym next)) (runs q5)))))))))))

-- ---- three groups

-- a list of at least one, and of this many
record Group (vs : List ValueNo) (n : ℕ) : Type 0 where
  first : ValueNo
  rest : List ValueNo
  is : vs ≡ first ∷ rest
  long : length (first ∷ rest) ≡ suc n

group-of : (vs : List ValueNo) (n : ℕ) → length vs ≡ suc n → Group vs n
group-of [] n e = absurd (omega arith)
group-of (v ∷ vs) n e = record { first = v; rest = vs; is = refl; long = e }

same-groups : (a b c x y z : ℕ) → x ≡ a → y ≡ b → z ≡ c → a ∷ b ∷ c ∷ [] ≡ x ∷ y ∷ z ∷ []
same-groups a b c x y z e f g = cc

-- operands in three groups
record Three (vs : List ValueNo) (a b c : ℕ) : Type 0 where
  x : ValueNo
  xs : List ValueNo
  y : ValueNo
  ys : List ValueNo
  z : ValueNo
  zs : List ValueNo
  parts : vs ≡ (x ∷ xs) ++ ((y ∷ ys) ++ (z ∷ zs))
  long_x : length (x ∷ xs) ≡ suc a
  long_y : length (y ∷ ys) ≡ suc b
  long_z : length (z ∷ zs) ≡ suc c

three-of : (vs : List ValueNo) (a b c : ℕ) → length vs ≡ suc a + (suc b + suc c) → Three vs a b c
three-of vs a b c e =
    let later : List ValueNo = drop (suc a) vs in
    let n : length later ≡ suc b + suc c = length-drop (suc a) vs ∙ omega arith in
    let gx = group-of (take (suc a) vs) a (length-take-le (suc a) vs (omega arith)) in
    let gy = group-of (take (suc b) later) b (length-take-le (suc b) later (omega arith)) in
    let gz = group-of (drop (suc b) later) c (length-drop (suc b) later ∙ omega arith) in
    record {
      x = gx.first;
      xs = gx.rest;
      y = gy.first;
      ys = gy.rest;
      z = gz.first;
      zs = gz.rest;
      parts = sym (take-append-drop (suc a) vs) ∙ ap₂ (λ (p q : List ValueNo). p ++ q) gx.is (sym (take-append-drop (suc b) later) ∙ ap₂ (λ (p q : List ValueNo). p ++ q) gy.is gz.is);
      long_x = gx.long;
      long_y = gy.long;
      long_z = gz.long;
    }

module _ {level : Level} {m : Module} {k : List Symbol} (a : Around) (s e : Scope) (begun last : ℕ) (indent : List ℕ) (at : ℕ) (rs : List Name) (ws : List Word)
    (o : Op) (r : Region) (is : kind_of o ≡ op.ScfParallel) (one : regions_of o ≡ r ∷ []) (good : IsGood s) (counted : last ≡ as_number begun)
    (g : RegionGoes level m op.ScfParallel 0 (types_of o) r s e) (f : Finds (map shown_name s.seen) (operands_of o))
    (runs : (after : ℕ) → (printed_lines (ops_of r) indent last).last ≡ as_number after → After level m k (during a (record { next = e.next; seen = s.seen }) after (whole o at rs)) ws) where
  pub parallel-with : (n : ℕ) (x y z : ValueNo) (xs ys zs : List ValueNo) → Counting (params_of r) (replicate n ty.Index)
      → operands_of o ≡ (x ∷ xs) ++ ((y ∷ ys) ++ (z ∷ zs))
      → length (x ∷ xs) < 2 ^ 32 → length (y ∷ ys) < 2 ^ 32 → length (z ∷ zs) < 2 ^ 32
      → Has o (length (operands_of o)) attr.None (length (x ∷ xs) ∷ length (y ∷ ys) ∷ length (z ∷ zs) ∷ []) [] [] (replicate (suc n) ty.Index ∷ [])
      → Any level m (form op.ScfParallel ++ (ends ++ k)) (during a s begun (blank op.ScfParallel at rs))
      (onto (parallel_form o) (mark 123 ∷ onto (printed_lines (ops_of r) indent last).doc (mark 125 ∷ ws)))
  parallel-with n x y z xs ys zs c parts hx hy hz has p =
      let names : List Name = map shown_name s.seen in
      let all : List (ValueNo × Ty) = (c.index, ty.Index) ∷ c.rest in
      let on : NumberOn s.next (c.index ∷ firsts c.rest) = subst (λ (l : List (ValueNo × Ty)). NumberOn s.next (value_params l)) c.parts g.on in
      let whole_op : OpenOp = spread at rs (x ∷ xs) (y ∷ ys) (z ∷ zs) all in
      let found : Finds names ((x ∷ xs) ++ ((y ∷ ys) ++ (z ∷ zs))) = subst (λ (l : List ValueNo). Finds names l) parts f in
      let two : Finds names ((y ∷ ys) ++ (z ∷ zs)) = finds-right names (x ∷ xs) ((y ∷ ys) ++ (z ∷ zs)) found in
      let sized : length (value_params (params_of r)) ≡ length all = long-as (params_of r) all c.parts in
      let same : whole o at rs ≡ with_region whole_op r =
      whole-with o op.ScfParallel (r ∷ []) _ _ _ _ _ _ at rs is one has
      ∙ ap (λ (vs : List ValueNo). op_with op.ScfParallel at rs vs (length (x ∷ xs) ∷ length (y ∷ ys) ∷ length (z ∷ zs) ∷ []) [] [] attr.None (r ∷ []))
      (parts ∙ sym (append_assoc (x ∷ xs) (y ∷ ys) (z ∷ zs))) in
      rw (one, c.parts, has.groups_are, parts, take-append_seam xs ((y ∷ ys) ++ (z ∷ zs)), drop-seam xs ((y ∷ ys) ++ (z ∷ zs)), take-append_seam ys (z ∷ zs), drop-seam ys (z ∷ zs), take-length zs)
      (spread-heads a s begun at rs (mark 123 ∷ onto (printed_lines (ops_of r) indent last).doc (mark 125 ∷ ws)) good c.index c.rest n x y z xs ys zs c.types on hx hy hz
      (finds-left names (x ∷ xs) ((y ∷ ys) ++ (z ∷ zs)) found) (finds-left names (y ∷ ys) (z ∷ zs) two) (finds-right names (y ∷ ys) (z ∷ zs) two)
      (λ q. enter a s e r begun last indent ws counted good whole_op op.ScfParallel 0 (types_of o) g (keeps-parallel 0 [] (ops_of r) g.ended) (ap (map param_of) (sym c.parts)) _
      (ap (λ (n : ℕ). record (during a (record { next = s.next + n; seen = s.seen }) begun whole_op) { passing = q }) (sym sized))
      (λ after is_last. (after-is a (record { next = e.next; seen = s.seen }) after _ _ same (runs after is_last)).ended)) p)

  pub parallel-read : HasForm op.ScfParallel o → Any level m (form op.ScfParallel ++ (ends ++ k)) (during a s begun (blank op.ScfParallel at rs))
      (onto (parallel_form o) (mark 123 ∷ onto (printed_lines (ops_of r) indent last).doc (mark 125 ∷ ws)))
  parallel-read h =
      let has = h.7 in
      let params : param_types r ≡ replicate (suc h.3) ty.Index = first-of-all (param_types r) _ (ap (map param_types) (sym one) ∙ has.params_are) in
      let t = three-of (operands_of o) h.0 h.1 h.2 has.operand_count in
      parallel-with h.3 t.x t.y t.z t.xs t.ys t.zs (counting (params_of r) (replicate h.3 ty.Index) params) t.parts
      (small (length (t.x ∷ t.xs)) h.0 t.long_x h.4) (small (length (t.y ∷ t.ys)) h.1 t.long_y h.5) (small (length (t.z ∷ t.zs)) h.2 t.long_z h.6)
      (record {
        operand_count = refl;
        attr_is = has.attr_is;
        groups_are = has.groups_are ∙ same-groups _ _ _ _ _ _ t.long_x t.long_y t.long_z;
        written_are = has.written_are;
        types_are = has.types_are;
        params_are = has.params_are;
      })
    where
      small : (n c : ℕ) → n ≡ suc c → c < 2 ^ 32 - 1 → n < 2 ^ 32
      small n c e h = omega arith
