-- What is found in a module's list of messages, by induction over operations and regions.
use Rattle.std.proofs.Common.{◌≡◌, ℕ, ◌==◌, if◌then◌else◌, Bool, true, false, List, [], ◌∷◌, ◌++◌, map, Option, Some, None, refl, sym, ap, subst, ◌∙◌}
use Rattle.op_table.specs.declared.kind.OpKind.{OpKind}
use Rattle.ir_forms.specs.declared.ops.Attr.{Attr}
use Rattle.ir_forms.specs.declared.ops.Func.{Func}
use Rattle.ir_forms.specs.declared.ops.Module.{Module}
use Rattle.ir_forms.specs.declared.ops.Op.{Op, Op-F, roll-Op}
use Rattle.ir_forms.specs.declared.ops.Op.TheFolds.{fold-roll-Op, fold-roll-Region, ind-Region}
use Rattle.ir_forms.specs.declared.ops.Region.{Region, Region-F, roll-Region}
use Rattle.run_report.specs.declared.note_list.Note.{Note}
use Rattle.run_report.specs.Messages.{message, own_message, or_later, first_of, message_here, message_under, message_at, message_in, message_in_funcs, or_empty, note_at}
use Rattle.run_report.specs.Notes.{note_if, own_note, joined, notes_here, notes_under, notes_at, notes_in, notes_in_funcs, notes_of, message_of}

-- the first message listed for this number
found : ℕ → List Note → Option (List ℕ)
found n [] = None
found n (note ∷ notes) = if note.op == n then Some note.text else found n notes

empty_if : (b : Bool) (text rest : List ℕ) (o : Option (List ℕ)) → rest ≡ or_empty o → (if b then text else rest) ≡ or_empty (if b then Some text else o)
empty_if true text rest o e = refl
empty_if false text rest o e = e

found_or_empty : (n : ℕ) (notes : List Note) → message_of notes n ≡ or_empty (found n notes)
unfolding found
found_or_empty n [] = refl
found_or_empty n (note ∷ notes) = empty_if (note.op == n) note.text (message_of notes n) (found n notes) (found_or_empty n notes)

later_if : (b : Bool) (text : List ℕ) (whole first last : Option (List ℕ)) → whole ≡ or_later first last → (if b then Some text else whole) ≡ or_later (if b then Some text else first) last
later_if true text whole first last e = refl
later_if false text whole first last e = e

found_append : (n : ℕ) (xs ys : List Note) → found n (xs ++ ys) ≡ or_later (found n xs) (found n ys)
unfolding found
found_append n [] ys = refl
found_append n (x ∷ xs) ys = later_if (x.op == n) x.text (found n (xs ++ ys)) (found n xs) (found n ys) (found_append n xs ys)

none_if : (b : Bool) → let none : Option (List ℕ) = None in none ≡ (if b then none else none)
none_if true = refl
none_if false = refl

found_if : (n at : ℕ) (o : Option (List ℕ)) → found n (note_if at o) ≡ (if at == n then o else None)
unfolding found
found_if n at (Some text) = refl
found_if n at None = none_if (at == n)

found_own : (n at : ℕ) (kind : OpKind) (attr : Attr) → found n (own_note at kind attr) ≡ own_message n at kind attr
found_own n at kind attr = found_if n at (message kind attr)

-- ---- several

abbrev Each : {A : Type 0} → (A → Type 0) → List A → Type 0
Each P [] = Unit {0}
Each P (x ∷ xs) = P x × Each P xs

each_of : {A : Type 0} (P : A → Type 0) (ys : List ((x : A) × P x)) → Each P (map (λ e. e.0) ys)
each_of P [] = tt
each_of P (y ∷ ys) = (y.1, each_of P ys)

found_each : {A : Type 0} (n : ℕ) (notes : A → List Note) (message : A → Option (List ℕ)) (xs : List A) → Each (λ x. found n (notes x) ≡ message x) xs → found n (joined (map notes xs)) ≡ first_of (map message xs)
unfolding found
found_each n notes message [] each = refl
found_each n notes message (x ∷ xs) each =
    found_append n (notes x) (joined (map notes xs))
    ∙ ap (λ o. or_later o (found n (joined (map notes xs)))) each.0
    ∙ ap (λ o. or_later (message x) o) (found_each n notes message xs each.1)

-- ---- operations and regions

notes-op : (x : Op-F Op Region) → notes_at (roll-Op x) ≡ own_note x.at x.kind x.attr ++ joined (map notes_in x.regions)
unfolding notes_at notes_in
notes-op x = fold-roll-Op (List Note) (List Note) notes_here notes_under x

notes-region : (x : Region-F Op Region) → notes_in (roll-Region x) ≡ joined (map notes_at x.ops)
unfolding notes_at notes_in
notes-region x = fold-roll-Region (List Note) (List Note) notes_here notes_under x

message-op : (n : ℕ) (x : Op-F Op Region) → message_at n (roll-Op x) ≡ or_later (own_message n x.at x.kind x.attr) (first_of (map (message_in n) x.regions))
unfolding message_at message_in
message-op n x = fold-roll-Op (Option (List ℕ)) (Option (List ℕ)) (message_here n) message_under x

message-region : (n : ℕ) (x : Region-F Op Region) → message_in n (roll-Region x) ≡ first_of (map (message_at n) x.ops)
unfolding message_at message_in
message-region n x = fold-roll-Region (Option (List ℕ)) (Option (List ℕ)) (message_here n) message_under x

module _ (n : ℕ) where
  abbrev IsFound : Op → Type 0
  IsFound op = found n (notes_at op) ≡ message_at n op

  abbrev IsFoundIn : Region → Type 0
  IsFoundIn region = found n (notes_in region) ≡ message_in n region

  op_step : (x : Op-F Op Region) → Each IsFoundIn x.regions → IsFound (roll-Op x)
  op_step x each =
      ap (found n) (notes-op x)
      ∙ found_append n (own_note x.at x.kind x.attr) (joined (map notes_in x.regions))
      ∙ ap (λ o. or_later o (found n (joined (map notes_in x.regions)))) (found_own n x.at x.kind x.attr)
      ∙ ap (λ o. or_later (own_message n x.at x.kind x.attr) o) (found_each n notes_in (message_in n) x.regions each)
      ∙ sym (message-op n x)

  region_step : (x : Region-F Op Region) → Each IsFound x.ops → IsFoundIn (roll-Region x)
  region_step x each = ap (found n) (notes-region x) ∙ found_each n notes_at (message_at n) x.ops each ∙ sym (message-region n x)

  found_in : (region : Region) → IsFoundIn region
  found_in = ind-Region IsFound IsFoundIn
      (λ x y is. op_step x (subst (λ (z : Op-F Op Region). Each IsFoundIn z.regions) is (each_of IsFoundIn y.regions)))
      (λ x y is. region_step x (subst (λ (z : Region-F Op Region). Each IsFound z.ops) is (each_of IsFound y.ops)))

  found_funcs : (funcs : List Func) → found n (notes_in_funcs funcs) ≡ message_in_funcs n funcs
  unfolding found
  found_funcs [] = refl
  found_funcs (f ∷ fs) =
      found_append n (notes_in f.body) (notes_in_funcs fs)
      ∙ ap (λ o. or_later o (found n (notes_in_funcs fs))) (found_in f.body)
      ∙ ap (λ o. or_later (message_in n f.body) o) (found_funcs fs)

pub finds_notes : (program : Module) (n : ℕ) → message_of (notes_of program) n ≡ note_at program n
finds_notes program n = found_or_empty n (notes_of program) ∙ ap or_empty (found_funcs n program.funcs)
