-- A run whose tasks did what they did first in another one.
use Rattle.std.specs.Prelude.{◌⊎◌, nat_eq, ◌&&◌}
use mathlib.Core.Logic.{inl, inr}
use Rattle.std.proofs.Common.{◌≡◌, ◌<◌, ℕ, zero, suc, Bool, true, false, cond, [], ◌∷◌, ◌++◌, length, Option, Some, None, refl, sym, ap, subst, ◌∙◌, arith}
use Rattle.std.proofs.lemmas.List.{append-nil}
use Rattle.std.proofs.lemmas.Bool.{eq-eqb, eqb-true}
use Rattle.ir_forms.specs.declared.names.MadeName.{MadeName}
use Rattle.ir_forms.specs.declared.names.MadeName.TheVariants.{Argument, Made}
use Rattle.ir_forms.specs.Names.{Path, same_path}
use Rattle.one_end.specs.Programs.{Act, Program}
use Rattle.one_end.specs.Runs.{Event, Log, history, taken, last_end, Ended, IsRun, begun, size, size_in, size_made, either}
use Rattle.one_end.proofs.Basics.{Older, older_same_list, older_trans, older_within, older_same, none≢some, some_inj, snoc_not_nil, head_inj, path_yes, path_same}
use Rattle.one_end.proofs.Histories.{history_own, Found, find_older, older_history, older_at, ended_last}
use Rattle.one_end.proofs.Makers.{Made_how, launched, iterates, made_how, Origin, begun_origin, begun_later, origin_begun, acted_begun, one_begin}

-- each task did what it did first in the other
abbrev pub Part : {D V : Type 0} → Log D V → Log D V → Type 0
Part log whole = (p : Path) → Older (history log p) (history whole p)

module _ {D V : Type 0} where
  pub part_older : (f log whole : Log D V) → Older f log → Part log whole → Part f whole
  part_older f log whole o part p = older_trans (history f p) (history log p) (history whole p) (older_history f log p o) (part p)

  pub older_part : (f log : Log D V) → Older f log → Part f log
  older_part f log o p = older_history f log p o

  pub older_nil : (log : Log D V) → Older [] log
  older_nil log = (log, sym (append-nil log))

  -- a task of the whole has done so much in the part
  pub did_in : (whole log : Log D V) (e : Event D V) (f : Log D V) → Part log whole → Older (e ∷ f) whole → taken f e.task < taken log e.task → Older (e ∷ history f e.task) (history log e.task)
  did_in whole log e f part o l = older_within (e ∷ history f e.task) (history log e.task) (history whole e.task) (older_at e f whole o) (part e.task) (omega (arith, l))

module _ {D V : Type 0} (P : Program D V) where
  pub begun_root : (log : Log D V) → begun P log [] ≡ Some P.root
  begun_root log = begun_later P [] log [] P.root (older_nil log) refl

  pub made_not_root : (a : Act D V) (p : Path) (k : ℕ) (q : Path) → q ≡ [] → Made_how a p k q → ⊥
  made_not_root a p k q e (launched d r f w) = snoc_not_nil p k [] (sym e ∙ w)
  made_not_root a p k q e (iterates ds s i f w) = snoc_not_nil p k (i ∷ []) (sym e ∙ w)

  origin_same : (whole : Log D V) (q : Path) (d : D) → IsRun P whole → Origin whole q d → begun P whole q ≡ Some d
  origin_same whole q d r o = split (begun_origin P whole q made.0 made.1) where
    made : (c : D) × (begun P whole q ≡ Some c)
    made = origin_begun P whole q d o

    split : ((q ≡ []) × (made.0 ≡ P.root)) ⊎ Origin whole q made.0 → begun P whole q ≡ Some d
    split (inl w) = absurd (made_not_root o.event.act o.by (suc (length o.did)) q w.0 (made_how o.event.act o.by (suc (length o.did)) q d o.makes))
    split (inr w) = made.1 ∙ ap (λ t. Some t) (one_begin P whole q made.0 d r w o)

  -- a task begins in the whole as in the part
  pub begun_same : (whole log : Log D V) (q : Path) (d : D) → IsRun P whole → Part log whole → begun P log q ≡ Some d → begun P whole q ≡ Some d
  begun_same whole log q d r part e = split (begun_origin P log q d e) where
    split : ((q ≡ []) × (d ≡ P.root)) ⊎ Origin log q d → begun P whole q ≡ Some d
    split (inl w) = subst (λ t. begun P whole t ≡ Some d) (sym w.0) (subst (λ t. begun P whole [] ≡ Some t) (sym w.1) (begun_root whole))
    split (inr o) = origin_same whole q d r (record { by = o.by; event = o.event; did = o.did; at = older_trans (o.event ∷ o.did) (history log o.by) (history whole o.by) o.at (part o.by); makes = o.makes })

  -- a task that has ended in the part has done all that it does
  pub ended_whole : (whole log : Log D V) (p : Path) → IsRun P whole → Part log whole → Ended log p → history log p ≡ history whole p
  ended_whole whole log p r part e = split (history log p) refl where
    split : (h : Log D V) → history log p ≡ h → history log p ≡ history whole p
    split [] w = absurd (none≢some e.0 (sym (ap last_end w) ∙ e.1))
    split (z ∷ h) w = w ∙ sym (ended_last P whole p z h e.0 r (sym (ap last_end w) ∙ e.1) (subst (λ t. Older t (history whole p)) w (part p)))

  pub ended_begun : (log : Log D V) (p : Path) → IsRun P log → Ended log p → (d : D) × (begun P log p ≡ Some d)
  ended_begun log p r e = split (history log p) refl where
    split : (h : Log D V) → history log p ≡ h → (d : D) × (begun P log p ≡ Some d)
    split [] w = absurd (none≢some e.0 (sym (ap last_end w) ∙ e.1))
    split (z ∷ h) w = acted_begun P log p z h r (subst (λ t. Older t (history log p)) w (older_same_list (history log p)))

  pub taken_begun : (log : Log D V) (p : Path) → IsRun P log → zero < taken log p → (d : D) × (begun P log p ≡ Some d)
  taken_begun log p r l = split (history log p) refl where
    split : (h : Log D V) → history log p ≡ h → (d : D) × (begun P log p ≡ Some d)
    split [] w = absurd (omega (arith, l, ap length w))
    split (z ∷ h) w = acted_begun P log p z h r (subst (λ t. Older t (history log p)) w (older_same_list (history log p)))

-- ---- sizes of groups

some_size : (o : Option ℕ) (n : ℕ) → (c : ℕ) × (either o (Some n) ≡ Some c)
some_size None n = (n, refl)
some_size (Some c) n = (c, refl)

module _ {D V : Type 0} where
  -- an event that created a group
  pub record Created (log : Log D V) (q : Path) (k n : ℕ) : Type 0 where
    pub event : Event D V
    pub did : Log D V
    pub at : Older (event ∷ did) (history log q)
    pub number : suc (length did) ≡ k
    pub size : size_in event.act ≡ Some n

  pub size_later : (m f : Log D V) (g : MadeName) (n : ℕ) → size f g ≡ Some n → size (m ++ f) g ≡ Some n
  size_later [] f g n e = e
  size_later (x ∷ m) f g n e = ap (λ t. either t (size_made x.act x.task (suc (taken (m ++ f) x.task)) g)) (size_later m f g n e)

  size_made_inv : (a : Act D V) (p q : Path) (j k n : ℕ) → size_made a p j (Made q k) ≡ Some n → (p ≡ q) × (j ≡ k) × (size_in a ≡ Some n)
  size_made_inv a p q j k n e = split (same_path p q) refl (nat_eq j k) refl e where
    split : (s : Bool) → same_path p q ≡ s → (t : Bool) → nat_eq j k ≡ t → cond (s && t) (size_in a) None ≡ Some n → (p ≡ q) × (j ≡ k) × (size_in a ≡ Some n)
    split true h true i w = (path_yes p q h, eqb-true j k i, w)
    split true h false i w = absurd (none≢some n w)
    split false h t i w = absurd (none≢some n w)

  size_origin : (log : Log D V) (q : Path) (k n : ℕ) → size log (Made q k) ≡ Some n → Created log q k n
  size_origin [] q k n e = absurd (none≢some n e)
  size_origin (x ∷ log) q k n e = split (size log (Made q k)) refl (size_origin log q k n) where
    later : Created log q k n → Created (x ∷ log) q k n
    later c = record { event = c.event; did = c.did; at = older_trans (c.event ∷ c.did) (history log q) (history (x ∷ log) q) c.at (older_history log (x ∷ log) q (x ∷ [], refl)); number = c.number; size = c.size }

    new : (x.task ≡ q) × (suc (taken log x.task) ≡ k) × (size_in x.act ≡ Some n) → Created (x ∷ log) q k n
    new w = record {
      event = x;
      did = history log x.task;
      at = subst (λ t. Older (x ∷ history log x.task) (history (x ∷ log) t)) w.0 (subst (λ t. Older t (history (x ∷ log) x.task)) (history_own x log x.task refl) (older_same_list (history (x ∷ log) x.task)));
      number = w.1;
      size = w.2;
    }

    split : (o : Option ℕ) → size log (Made q k) ≡ o → (size log (Made q k) ≡ Some n → Created log q k n) → Created (x ∷ log) q k n
    split (Some c) h f = later (f (h ∙ (sym (ap (λ t. either t (size_made x.act x.task (suc (taken log x.task)) (Made q k))) h) ∙ e)))
    split None h f = new (size_made_inv x.act x.task q (suc (taken log x.task)) k n (sym (ap (λ t. either t (size_made x.act x.task (suc (taken log x.task)) (Made q k))) h) ∙ e))

  size_made_here : (a : Act D V) (p q : Path) (j k n : ℕ) → p ≡ q → j ≡ k → size_in a ≡ Some n → size_made a p j (Made q k) ≡ Some n
  size_made_here a p q j k n e f s = ap (λ t. cond (t && nat_eq j k) (size_in a) None) (subst (λ t. same_path p t ≡ true) e (path_same p)) ∙ (ap (λ t. cond t (size_in a) None) (eq-eqb j k f) ∙ s)

  created_size : (log : Log D V) (q : Path) (k n : ℕ) → Created log q k n → size log (Made q k) ≡ Some n
  created_size log q k n c = there_is ∙ ap (λ t. Some t) (some_inj some.0 n (sym other.size ∙ (ap (λ (t : Event D V). size_in t.act) same ∙ c.size))) where
    at : Found log q c.event c.did
    at = find_older log q c.event c.did c.at

    some : (m : ℕ) × (either (size at.past (Made q k)) (Some n) ≡ Some m)
    some = some_size (size at.past (Made q k)) n

    number : suc (taken at.past c.event.task) ≡ k
    number = ap (λ t. suc (taken at.past t)) at.task ∙ (ap (λ t. suc (length t)) at.did ∙ c.number)

    last : size (c.event ∷ at.past) (Made q k) ≡ Some some.0
    last = ap (λ t. either (size at.past (Made q k)) t) (size_made_here c.event.act c.event.task q (suc (taken at.past c.event.task)) k n at.task number c.size) ∙ some.1

    there_is : size log (Made q k) ≡ Some some.0
    there_is = subst (λ t. size t (Made q k) ≡ Some some.0) (sym at.older.1) (size_later at.older.0 (c.event ∷ at.past) (Made q k) some.0 last)

    other : Created log q k some.0
    other = size_origin log q k some.0 there_is

    same : other.event ≡ c.event
    same = head_inj other.event c.event other.did c.did (older_same (other.event ∷ other.did) (c.event ∷ c.did) (history log q) other.at c.at (omega (arith, other.number, c.number)))

  -- a group has one size
  pub size_same : (whole log : Log D V) (g : MadeName) (n : ℕ) → Part log whole → size log g ≡ Some n → size whole g ≡ Some n
  size_same whole log (Argument j) n part e = size_argument whole ∙ (sym (size_argument log) ∙ e) where
    size_argument : (l : Log D V) → size l (Argument j) ≡ Some 0
    size_argument [] = refl
    size_argument (x ∷ l) = ap (λ t. either t (size_made x.act x.task (suc (taken l x.task)) (Argument j))) (size_argument l)
  size_same whole log (Made q k) n part e = created_size whole q k n (moved (size_origin log q k n e)) where
    moved : Created log q k n → Created whole q k n
    moved c = record { event = c.event; did = c.did; at = older_trans (c.event ∷ c.did) (history log q) (history whole q) c.at (part q); number = c.number; size = c.size }
