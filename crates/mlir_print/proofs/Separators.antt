-- Which parts of a text may stand behind one another.
use Rattle.std.proofs.Common.{◌≡◌, ℕ, Bool, true, false, not, ◌&&◌, ◌==◌, List, [], ◌∷◌, ◌++◌, refl, append_assoc, slice_index, Option, Some, None}
use Rattle.mlir_lex.specs.declared.bytes.ByteClass.TheVariants.{NamePart, SuffixPart, Digit}
use Rattle.mlir_lex.specs.Bytes.{is_in}
use Rattle.mlir_lex.specs.Grammar.{is_name}
use Rattle.mlir_print.specs.Docs as doc
use Rattle.mlir_print.specs.Docs.{Doc, ◌<>◌, bytes_of, mark, word, comma, colon, equals, arrow, keyword, parens, brackets, more, commas, shown}
use Rattle.mlir_print.proofs.Spacing.{Stands}

-- the bytes that may stand directly behind a name, a number or a symbol; 0 is the end of the text
pub data IsSeparator : ℕ → Type 0 where
  text_end : IsSeparator 0
  line_end : IsSeparator 10
  blank : IsSeparator 32
  open_paren : IsSeparator 40
  close_paren : IsSeparator 41
  a_comma : IsSeparator 44
  greater : IsSeparator 62
  open_bracket : IsSeparator 91
  close_bracket : IsSeparator 93
  close_brace : IsSeparator 125

abbrev pub Ends : List ℕ → Type 0
Ends rest = IsSeparator (slice_index rest 0)

not_both : (x : Bool) → not (x && false) ≡ true
not_both true = refl
not_both false = refl

pub name_at : (b : ℕ) (x : Bool) → IsSeparator b → (not (is_in NamePart b) && not (x && b == 60)) ≡ true
unfolding is_in
name_at _ x text_end = not_both x
name_at _ x line_end = not_both x
name_at _ x blank = not_both x
name_at _ x open_paren = not_both x
name_at _ x close_paren = not_both x
name_at _ x a_comma = not_both x
name_at _ x greater = not_both x
name_at _ x open_bracket = not_both x
name_at _ x close_bracket = not_both x
name_at _ x close_brace = not_both x

pub digits_at : (b : ℕ) (x : Bool) → IsSeparator b → (not (is_in Digit b) && not (x && b == 120)) ≡ true
unfolding is_in
digits_at _ x text_end = not_both x
digits_at _ x line_end = not_both x
digits_at _ x blank = not_both x
digits_at _ x open_paren = not_both x
digits_at _ x close_paren = not_both x
digits_at _ x a_comma = not_both x
digits_at _ x greater = not_both x
digits_at _ x open_bracket = not_both x
digits_at _ x close_bracket = not_both x
digits_at _ x close_brace = not_both x

pub suffix_at : (b : ℕ) → IsSeparator b → not (is_in SuffixPart b) ≡ true
unfolding is_in
suffix_at _ text_end = refl
suffix_at _ line_end = refl
suffix_at _ blank = refl
suffix_at _ open_paren = refl
suffix_at _ close_paren = refl
suffix_at _ a_comma = refl
suffix_at _ greater = refl
suffix_at _ open_bracket = refl
suffix_at _ close_bracket = refl
suffix_at _ close_brace = refl

pub name_part_at : (b : ℕ) → IsSeparator b → not (is_in NamePart b) ≡ true
unfolding is_in
name_part_at _ text_end = refl
name_part_at _ line_end = refl
name_part_at _ blank = refl
name_part_at _ open_paren = refl
name_part_at _ close_paren = refl
name_part_at _ a_comma = refl
name_part_at _ greater = refl
name_part_at _ open_bracket = refl
name_part_at _ close_bracket = refl
name_part_at _ close_brace = refl

-- ---- documents

-- its tokens stand where a separator stands behind it
pub record Fits (d : Doc) : Type 0 where
  pub stand : (rest : List ℕ) → Ends rest → Stands d rest

-- its tokens stand whatever stands behind it
pub record Free (d : Doc) : Type 0 where
  pub stand : (rest : List ℕ) → Stands d rest

-- its tokens stand where a separator stands behind it, and it may stand behind a name itself
pub record Good (d : Doc) : Type 0 where
  pub stand : (rest : List ℕ) → Ends rest → Stands d rest
  pub opens : (rest : List ℕ) → Ends rest → Ends (bytes_of d ++ rest)

-- its tokens stand whatever stands behind it, and it may stand behind a name itself
pub record Closed (d : Doc) : Type 0 where
  pub stand : (rest : List ℕ) → Stands d rest
  pub opens : (rest : List ℕ) → Ends (bytes_of d ++ rest)

pub good_fits : {d : Doc} → Good d → Fits d
good_fits g = record { stand = g.stand }

pub good_empty : Good doc.Empty
good_empty = record { stand = λ rest ends. tt; opens = λ rest ends. ends }

pub closed_blank : Closed doc.Blank
closed_blank = record { stand = λ rest. tt; opens = λ rest. blank }

pub behind : {a b : Doc} → Fits a → Good b → Fits (a <> b)
behind {a} {b} fa gb = record { stand = λ rest ends. (fa.stand (bytes_of b ++ rest) (gb.opens rest ends), gb.stand rest ends) }

pub seq : {a b : Doc} → Good a → Good b → Good (a <> b)
seq {a} {b} ga gb = record {
  stand = λ rest ends. (ga.stand (bytes_of b ++ rest) (gb.opens rest ends), gb.stand rest ends);
  opens = λ rest ends. rw append_assoc (ga.opens (bytes_of b ++ rest) (gb.opens rest ends));
}

pub free_first : {a b : Doc} → Free a → Fits b → Fits (a <> b)
free_first {a} {b} fa fb = record { stand = λ rest ends. (fa.stand (bytes_of b ++ rest), fb.stand rest ends) }

pub free_behind : {a b : Doc} → Fits a → Closed b → Free (a <> b)
free_behind {a} {b} fa cb = record { stand = λ rest. (fa.stand (bytes_of b ++ rest) (cb.opens rest), cb.stand rest) }

pub seq_closed : {a b : Doc} → Good a → Closed b → Closed (a <> b)
seq_closed {a} {b} ga cb = record {
  stand = λ rest. (ga.stand (bytes_of b ++ rest) (cb.opens rest), cb.stand rest);
  opens = λ rest. rw append_assoc (ga.opens (bytes_of b ++ rest) (cb.opens rest));
}

pub blank_first : {b : Doc} → Fits b → Good (doc.Blank <> b)
blank_first fb = record { stand = λ rest ends. (tt, fb.stand rest ends); opens = λ rest ends. blank }

pub blank_closed : {b : Doc} → Free b → Closed (doc.Blank <> b)
blank_closed fb = record { stand = λ rest. (tt, fb.stand rest); opens = λ rest. blank }

pub free_colon : Free colon
unfolding is_in
free_colon = record { stand = λ rest. (tt, ((refl, refl), tt)) }

pub free_equals : Free equals
unfolding is_in
free_equals = record { stand = λ rest. (tt, ((refl, refl), tt)) }

pub free_arrow : Free arrow
free_arrow = record { stand = λ rest. (tt, ((refl, refl), tt)) }

pub free_comma : Free comma
unfolding is_in
free_comma = record { stand = λ rest. ((refl, refl), tt) }

pub fits_word : (text : List ℕ) → is_name text ≡ true → Fits (word text)
fits_word text is = record { stand = λ rest ends. (is, name_at (slice_index rest 0) _ ends) }

pub free_keyword : (text : List ℕ) → is_name text ≡ true → Free (keyword text)
free_keyword text is = record { stand = λ rest. (tt, ((is, name_at 32 _ blank), tt)) }

pub colon_first : {b : Doc} → Fits b → Good (colon <> b)
colon_first {b} fb = record { stand = λ rest ends. (free_colon.stand (bytes_of b ++ rest), fb.stand rest ends); opens = λ rest ends. blank }

pub equals_first : {b : Doc} → Fits b → Good (equals <> b)
equals_first {b} fb = record { stand = λ rest ends. (free_equals.stand (bytes_of b ++ rest), fb.stand rest ends); opens = λ rest ends. blank }

pub arrow_first : {b : Doc} → Fits b → Good (arrow <> b)
arrow_first {b} fb = record { stand = λ rest ends. (free_arrow.stand (bytes_of b ++ rest), fb.stand rest ends); opens = λ rest ends. blank }

pub comma_first : {b : Doc} → Fits b → Good (comma <> b)
comma_first {b} fb = record { stand = λ rest ends. (free_comma.stand (bytes_of b ++ rest), fb.stand rest ends); opens = λ rest ends. a_comma }

pub keyword_first : (text : List ℕ) {b : Doc} → is_name text ≡ true → Fits b → Good (keyword text <> b)
keyword_first text {b} is fb = record {
  stand = λ rest ends. ((free_keyword text is).stand (bytes_of b ++ rest), fb.stand rest ends);
  opens = λ rest ends. blank;
}

pub free_parens : {d : Doc} → Fits d → Free (parens d)
unfolding is_in
free_parens fd = record { stand = λ rest. ((refl, refl), (fd.stand (41 ∷ rest) close_paren, (refl, refl))) }

pub free_brackets : {d : Doc} → Fits d → Free (brackets d)
unfolding is_in
free_brackets fd = record { stand = λ rest. ((refl, refl), (fd.stand (93 ∷ rest) close_bracket, (refl, refl))) }

pub good_parens : {d : Doc} → Fits d → Good (parens d)
good_parens fd = record { stand = λ rest ends. (free_parens fd).stand rest; opens = λ rest ends. open_paren }

pub fits_parens : {d : Doc} → Fits d → Fits (parens d)
fits_parens fd = record { stand = λ rest ends. (free_parens fd).stand rest }

pub good_brackets : {d : Doc} → Fits d → Good (brackets d)
good_brackets fd = record { stand = λ rest ends. (free_brackets fd).stand rest; opens = λ rest ends. open_bracket }

pub fits_brackets : {d : Doc} → Fits d → Fits (brackets d)
fits_brackets fd = record { stand = λ rest ends. (free_brackets fd).stand rest }

pub free_open : Free (mark 123)
unfolding is_in
free_open = record { stand = λ rest. (refl, refl) }

pub good_close : Good (mark 125)
unfolding is_in
good_close = record { stand = λ rest ends. (refl, refl); opens = λ rest ends. close_brace }

pub good_more : {A : Type 0} (show : A → Doc) → ((x : A) → Fits (show x)) → (xs : List A) → Good (more show xs)
good_more show fits [] = good_empty
good_more show fits (x ∷ xs) = comma_first (behind (fits x) (good_more show fits xs))

pub fits_commas : {A : Type 0} (show : A → Doc) → ((x : A) → Fits (show x)) → (xs : List A) → Fits (commas show xs)
fits_commas show fits [] = good_fits good_empty
fits_commas show fits (x ∷ xs) = behind (fits x) (good_more show fits xs)

pub fits_shown : {A : Type 0} (show : A → Doc) → ((x : A) → Fits (show x)) → (o : Option A) → Fits (shown show o)
fits_shown show fits None = good_fits good_empty
fits_shown show fits (Some x) = fits x
