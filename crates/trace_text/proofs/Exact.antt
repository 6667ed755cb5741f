-- Readers that are the inverse of the texts, and how they are put in a row.
use Rattle.std.proofs.Common.{◌≡◌, ◌∙◌, refl, sym, ap, subst, ℕ, ◌<◌, Bool, true, false, cond, not, ◌&&◌, ◌==◌, List, [], ◌∷◌, ◌++◌, length, take, drop, Option, Some, None, append_assoc, append-nil, arith}
use Rattle.std.specs.Prelude.{take_while, bytes_eq}
use Rattle.std.specs.List.{prefix_len, list_all}
use Rattle.std.proofs.lemmas.Bool.{and_parts, eqb-true, ltb-true, ne_eqb}
use Rattle.std.proofs.lemmas.List.{take-append-drop}
use Rattle.std.proofs.Math.Seq.{drop-append_seam}
use Rattle.std.proofs.lemmas.List.Folds.{length-prefix_len, list_all-append}
use Rattle.std.proofs.lemmas.List.Sums.{take_while-cons}
use Rattle.std.proofs.lemmas.Slice.Eq.{bytes_eq-Decides}
use Rattle.trace_text.specs.Fields.{is_field_byte, before}
use Rattle.trace_text.specs.Reading.{◌>>=◌, Read, field_of, behind_field, field_at, value_at, both, as_read, behind_word, behind}
use Rattle.trace_text.proofs.Joined.{before_again}

-- fields up to the line's end
abbrev pub line_end : List (List ℕ) → List ℕ
line_end fields = before fields (10 ∷ [])

-- any byte but a line feed
abbrev pub is_no_feed : ℕ → Bool
is_no_feed byte = not (byte == 10)

-- a field's reader gives a value exactly where the field is its text
pub record Exact {A : Type 0} (of : List ℕ → Option A) (text : A → List ℕ) (F : A → Type 0) : Type 0 where
  pub sound : (field : List ℕ) (a : A) → of field ≡ Some a → (text a ≡ field) × F a
  pub complete : (a : A) → F a → (of (text a) ≡ Some a) × (list_all is_field_byte (text a) ≡ true)

-- the same of a reader of some fields with others behind them
pub record ExactAt {A : Type 0} (read : List ℕ → Read A) (fields : A → List (List ℕ)) (F : A → Type 0) : Type 0 where
  pub sound : (t : List ℕ) (r : A × List ℕ) → read t ≡ Some r → (t ≡ before (fields r.0) r.1) × F r.0
  pub complete : (a : A) (more : List (List ℕ)) → F a → read (line_end (fields a ++ more)) ≡ Some (a, line_end more)
  pub clean : (a : A) → F a → list_all is_no_feed (before (fields a) []) ≡ true

-- the same of a reader of the last fields of a line
pub record ExactLast {A : Type 0} (read : List ℕ → Read A) (fields : A → List (List ℕ)) (F : A → Type 0) : Type 0 where
  pub sound : (t : List ℕ) (r : A × List ℕ) → read t ≡ Some r → (t ≡ before (fields r.0) r.1) × F r.0
  pub whole : (a : A) → F a → read (line_end (fields a)) ≡ Some (a, 10 ∷ [])
  pub clean : (a : A) → F a → list_all is_no_feed (before (fields a) []) ≡ true

pub as_last : {A : Type 0} {r : List ℕ → Read A} {f : A → List (List ℕ)} {F : A → Type 0} → ExactAt r f F → ExactLast r f F
as_last {r = r} {f = f} exact = record {
  sound = exact.sound;
  whole = λ a fits. ap (λ fields. r (line_end fields)) (sym (append-nil (f a))) ∙ exact.complete a [] fits;
  clean = exact.clean;
}

-- ---- options

pub some_same : {A : Type 0} (a b : A) → Some a ≡ Some b → a ≡ b
some_same a b h = cc

-- what a reader in a row gave
pub parts : {A B : Type 0} (o : Option A) (next : A → Option B) (b : B) → (o >>= next) ≡ Some b → (a : A) × (o ≡ Some a) × (next a ≡ Some b)
parts None next b h = absurd (let no : ⊥ = cc in no)
parts (Some a) next b h = (a, refl, h)

pub chosen : {A : Type 0} (test : Bool) (o : Option A) (a : A) → cond test o None ≡ Some a → (test ≡ true) × (o ≡ Some a)
chosen true o a h = (refl, h)
chosen false o a h = absurd (let no : ⊥ = cc in no)

-- ---- runs of bytes

pub run_of : (p : ℕ → Bool) (run rest : List ℕ) → list_all p run ≡ true → take_while p rest ≡ [] → take_while p (run ++ rest) ≡ run
run_of p [] rest all stop = stop
run_of p (x ∷ run) rest all stop =
    take_while-cons p x (run ++ rest)
    ∙ ap (λ b. cond b (x ∷ take_while p (run ++ rest)) []) (and_parts (p x) (list_all p run) all).0
    ∙ ap (λ xs. x ∷ xs) (run_of p run rest (and_parts (p x) (list_all p run) all).1 stop)

pub run_first : (p : ℕ → Bool) (text : List ℕ) → take_while p text ++ drop (length (take_while p text)) text ≡ text
run_first p text =
    ap (λ n. take (prefix_len p text) text ++ drop n text) (length-prefix_len p text) ∙ take-append-drop (prefix_len p text) text

pub behind_run : (p : ℕ → Bool) (run rest : List ℕ) → take_while p (run ++ rest) ≡ run → drop (length (take_while p (run ++ rest))) (run ++ rest) ≡ rest
behind_run p run rest h = ap (λ n. drop n (run ++ rest)) (ap length h) ∙ drop-append_seam run rest

-- ---- fields

end_stops : (more : List (List ℕ)) → take_while is_field_byte (line_end more) ≡ []
end_stops [] = refl
end_stops (field ∷ more) = take_while-cons is_field_byte 32 (field ++ line_end more)

pub field_of_first : (field : List ℕ) (more : List (List ℕ)) → list_all is_field_byte field ≡ true → field_of (field ++ line_end more) ≡ field
unfolding field_of
field_of_first field more all = run_of is_field_byte field (line_end more) all (end_stops more)

pub behind_field_first : (field : List ℕ) (more : List (List ℕ)) → list_all is_field_byte field ≡ true → behind_field (field ++ line_end more) ≡ line_end more
unfolding behind_field field_of
behind_field_first field more all = behind_run is_field_byte field (line_end more) (run_of is_field_byte field (line_end more) all (end_stops more))

pub field_first : (text : List ℕ) → field_of text ++ behind_field text ≡ text
unfolding behind_field field_of
field_first text = run_first is_field_byte text

field_complete : (field : List ℕ) (more : List (List ℕ)) → list_all is_field_byte field ≡ true → field_at (line_end (field ∷ more)) ≡ Some (field, line_end more)
unfolding field_at
field_complete field more all =
    ap (λ f. Some (f, behind_field (field ++ line_end more))) (field_of_first field more all) ∙ ap (λ b. Some (field, b)) (behind_field_first field more all)

field_sound : (t : List ℕ) (r : List ℕ × List ℕ) → field_at t ≡ Some r → t ≡ 32 ∷ (r.0 ++ r.1)
unfolding field_at
field_sound [] r h = absurd (let no : ⊥ = cc in no)
field_sound (b ∷ bs) r h =
    let c : ((b == 32) ≡ true) × (Some (field_of bs, behind_field bs) ≡ Some r) = chosen (b == 32) (Some (field_of bs, behind_field bs)) r h in
    let e : (field_of bs, behind_field bs) ≡ r = some_same _ r c.1 in
    ap (λ x. x ∷ bs) (eqb-true b 32 c.0) ∙ ap (λ x. 32 ∷ x) (sym (field_first bs)) ∙ ap (λ q. 32 ∷ (q.0 ++ q.1)) e

-- ---- no line feed stands in fields

field_byte_clean : (b : ℕ) → is_field_byte b ≡ true → is_no_feed b ≡ true
field_byte_clean b h = let above : 32 < b = ltb-true 32 b h in ap not (ne_eqb b 10 (λ e. omega arith))

pub field_clean : (field : List ℕ) → list_all is_field_byte field ≡ true → list_all is_no_feed field ≡ true
field_clean [] all = refl
field_clean (b ∷ bs) all =
    ap (λ x. x && list_all is_no_feed bs) (field_byte_clean b (and_parts (is_field_byte b) (list_all is_field_byte bs) all).0)
    ∙ field_clean bs (and_parts (is_field_byte b) (list_all is_field_byte bs) all).1

pub first_clean : (field : List ℕ) (more : List (List ℕ)) → list_all is_no_feed field ≡ true → list_all is_no_feed (before more []) ≡ true → list_all is_no_feed (before (field ∷ more) []) ≡ true
first_clean field more first rest =
    list_all-append is_no_feed field (before more []) ∙ ap (λ b. b && list_all is_no_feed (before more [])) first ∙ rest

pub before_clean : (xs ys : List (List ℕ)) → list_all is_no_feed (before xs []) ≡ true → list_all is_no_feed (before ys []) ≡ true → list_all is_no_feed (before (xs ++ ys) []) ≡ true
before_clean [] ys first rest = rest
before_clean (x ∷ xs) ys first rest =
    let both = and_parts (list_all is_no_feed x) (list_all is_no_feed (before xs [])) (sym (list_all-append is_no_feed x (before xs [])) ∙ first) in
    first_clean x (xs ++ ys) both.0 (before_clean xs ys both.1 rest)

-- ---- readers of a field

pub value_exact : {A : Type 0} (of : List ℕ → Option A) (text : A → List ℕ) (F : A → Type 0) → Exact of text F → ExactAt (value_at of) (λ a. text a ∷ []) F
value_exact {A} of text F exact = record {
  sound = λ t r h.
      let s = parts (field_at t) (λ field. of field.0 >>= λ value. Some (value, field.1)) r h in
      let v = parts (of s.0.0) (λ value. Some (value, s.0.1)) r s.2 in
      let e : (v.0, s.0.1) ≡ r = some_same _ r v.2 in
      let at : (text v.0 ≡ s.0.0) × F v.0 = exact.sound s.0.0 v.0 v.1 in
      let T : A × List ℕ → Type 0 = λ q. (t ≡ before (text q.0 ∷ []) q.1) × F q.0 in
      subst T e (field_sound t s.0 s.1 ∙ ap (λ f. 32 ∷ (f ++ s.0.1)) (sym at.0), at.1);
  complete = λ a more fits.
      let c = exact.complete a fits in
      ap (λ o. o >>= λ field. of field.0 >>= λ value. Some (value, field.1)) (field_complete (text a) more c.1)
      ∙ ap (λ o. o >>= λ value. Some (value, line_end more)) c.0;
  clean = λ a fits. first_clean (text a) [] (field_clean (text a) (exact.complete a fits).1) refl;
}

-- ---- readers in a row

pub both_exact : {A B : Type 0} (r : List ℕ → Read A) (s : List ℕ → Read B) (f : A → List (List ℕ)) (g : B → List (List ℕ)) (F : A → Type 0) (G : B → Type 0)
    → ExactAt r f F → ExactAt s g G → ExactAt (both r s) (λ p. f p.0 ++ g p.1) (λ p. F p.0 × G p.1)
both_exact {A} {B} r s f g F G first second = record {
  sound = λ t q h.
      let a = parts (r t) (λ a. s a.1 >>= λ b. Some ((a.0, b.0), b.1)) q h in
      let b = parts (s a.0.1) (λ b. Some ((a.0.0, b.0), b.1)) q a.2 in
      let e : ((a.0.0, b.0.0), b.0.1) ≡ q = some_same _ q b.2 in
      let x : (t ≡ before (f a.0.0) a.0.1) × F a.0.0 = first.sound t a.0 a.1 in
      let y : (a.0.1 ≡ before (g b.0.0) b.0.1) × G b.0.0 = second.sound a.0.1 b.0 b.1 in
      let T : (A × B) × List ℕ → Type 0 = λ q. (t ≡ before (f q.0.0 ++ g q.0.1) q.1) × (F q.0.0 × G q.0.1) in
      subst T e (x.0 ∙ ap (before (f a.0.0)) y.0 ∙ sym (before_again (f a.0.0) (g b.0.0) b.0.1), (x.1, y.1));
  complete = λ p more fits.
      ap (λ fields. both r s (line_end fields)) (append_assoc (f p.0) (g p.1) more)
      ∙ ap (λ o. o >>= λ a. s a.1 >>= λ b. Some ((a.0, b.0), b.1)) (first.complete p.0 (g p.1 ++ more) fits.0)
      ∙ ap (λ o. o >>= λ b. Some ((p.0, b.0), b.1)) (second.complete p.1 more fits.1);
  clean = λ p fits. before_clean (f p.0) (g p.1) (first.clean p.0 fits.0) (second.clean p.1 fits.1);
}

pub both_last : {A B : Type 0} (r : List ℕ → Read A) (s : List ℕ → Read B) (f : A → List (List ℕ)) (g : B → List (List ℕ)) (F : A → Type 0) (G : B → Type 0)
    → ExactAt r f F → ExactLast s g G → ExactLast (both r s) (λ p. f p.0 ++ g p.1) (λ p. F p.0 × G p.1)
both_last {A} {B} r s f g F G first second = record {
  sound = λ t q h.
      let a = parts (r t) (λ a. s a.1 >>= λ b. Some ((a.0, b.0), b.1)) q h in
      let b = parts (s a.0.1) (λ b. Some ((a.0.0, b.0), b.1)) q a.2 in
      let e : ((a.0.0, b.0.0), b.0.1) ≡ q = some_same _ q b.2 in
      let x : (t ≡ before (f a.0.0) a.0.1) × F a.0.0 = first.sound t a.0 a.1 in
      let y : (a.0.1 ≡ before (g b.0.0) b.0.1) × G b.0.0 = second.sound a.0.1 b.0 b.1 in
      let T : (A × B) × List ℕ → Type 0 = λ q. (t ≡ before (f q.0.0 ++ g q.0.1) q.1) × (F q.0.0 × G q.0.1) in
      subst T e (x.0 ∙ ap (before (f a.0.0)) y.0 ∙ sym (before_again (f a.0.0) (g b.0.0) b.0.1), (x.1, y.1));
  whole = λ p fits.
      ap (λ o. o >>= λ a. s a.1 >>= λ b. Some ((a.0, b.0), b.1)) (first.complete p.0 (g p.1) fits.0)
      ∙ ap (λ o. o >>= λ b. Some ((p.0, b.0), b.1)) (second.whole p.1 fits.1);
  clean = λ p fits. before_clean (f p.0) (g p.1) (first.clean p.0 fits.0) (second.clean p.1 fits.1);
}

pub as_exact : {A B : Type 0} (seen : A → Option B) (r : List ℕ → Read A) (f : A → List (List ℕ)) (g : B → List (List ℕ)) (F : A → Type 0) (G : B → Type 0)
    → ExactAt r f F → ((a : A) (b : B) → F a → seen a ≡ Some b → (f a ≡ g b) × G b)
    → ((b : B) → G b → (a : A) × F a × (seen a ≡ Some b) × (f a ≡ g b)) → ExactAt (as_read seen r) g G
as_exact {A} {B} seen r f g F G exact forth back = record {
  sound = λ t q h.
      let a = parts (r t) (λ a. seen a.0 >>= λ value. Some (value, a.1)) q h in
      let b = parts (seen a.0.0) (λ value. Some (value, a.0.1)) q a.2 in
      let e : (b.0, a.0.1) ≡ q = some_same _ q b.2 in
      let x : (t ≡ before (f a.0.0) a.0.1) × F a.0.0 = exact.sound t a.0 a.1 in
      let y : (f a.0.0 ≡ g b.0) × G b.0 = forth a.0.0 b.0 x.1 b.1 in
      let T : B × List ℕ → Type 0 = λ q. (t ≡ before (g q.0) q.1) × G q.0 in
      subst T e (x.0 ∙ ap (λ fields. before fields a.0.1) y.0, y.1);
  complete = λ b more fits.
      let a = back b fits in
      ap (λ fields. as_read seen r (line_end (fields ++ more))) (sym a.3)
      ∙ ap (λ o. o >>= λ a. seen a.0 >>= λ value. Some (value, a.1)) (exact.complete a.0 more a.1)
      ∙ ap (λ o. o >>= λ value. Some (value, line_end more)) a.2;
  clean = λ b fits. let a = back b fits in ap (λ fields. list_all is_no_feed (before fields [])) (sym a.3) ∙ exact.clean a.0 a.1;
}

word_sound : (word t rest : List ℕ) → behind_word word t ≡ Some rest → t ≡ 32 ∷ (word ++ rest)
unfolding behind_word
word_sound word t rest h =
    let s = parts (field_at t) (λ field. cond (bytes_eq field.0 word) (Some field.1) None) rest h in
    let c : (bytes_eq s.0.0 word ≡ true) × (Some s.0.1 ≡ Some rest) = chosen (bytes_eq s.0.0 word) (Some s.0.1) rest s.2 in
    field_sound t s.0 s.1 ∙ ap (λ w. 32 ∷ (w ++ s.0.1)) ((bytes_eq-Decides s.0.0 word).0 c.0) ∙ ap (λ x. 32 ∷ (word ++ x)) (some_same _ rest c.1)

word_complete : (word : List ℕ) (more : List (List ℕ)) → list_all is_field_byte word ≡ true → behind_word word (line_end (word ∷ more)) ≡ Some (line_end more)
unfolding behind_word
word_complete word more all =
    ap (λ o. o >>= λ field. cond (bytes_eq field.0 word) (Some field.1) None) (field_complete word more all)
    ∙ ap (λ b. cond b (Some (line_end more)) None) ((bytes_eq-Decides word word).1 refl)

pub behind_exact : {A : Type 0} (word : List ℕ) (r : List ℕ → Read A) (f : A → List (List ℕ)) (F : A → Type 0)
    → list_all is_field_byte word ≡ true → ExactAt r f F → ExactAt (behind word r) (λ a. word ∷ f a) F
behind_exact word r f F all exact = record {
  sound = λ t q h.
      let s = parts (behind_word word t) r q h in
      let x : (s.0 ≡ before (f q.0) q.1) × F q.0 = exact.sound s.0 q s.2 in
      (word_sound word t s.0 s.1 ∙ ap (λ rest. 32 ∷ (word ++ rest)) x.0, x.1);
  complete = λ a more fits.
      ap (λ o. o >>= r) (word_complete word (f a ++ more) all) ∙ exact.complete a more fits;
  clean = λ a fits. first_clean word (f a) (field_clean word all) (exact.clean a fits);
}

-- ---- values made of what was read

abbrev pub made : {A B : Type 0} → (A → B) → A × List ℕ → Read B
made make a = Some (make a.0, a.1)

pub built : {A B : Type 0} (r : List ℕ → Read A) (f : A → List (List ℕ)) (F : A → Type 0) (make : A → B) → ExactAt r f F → (t : List ℕ) (q : B × List ℕ)
    → (r t >>= made make) ≡ Some q → (a : A) × (make a ≡ q.0) × (t ≡ before (f a) q.1) × F a
built {A} {B} r f F make exact t q h =
    let a = parts (r t) (made make) q h in
    let e : (make a.0.0, a.0.1) ≡ q = some_same _ q a.2 in
    let x : (t ≡ before (f a.0.0) a.0.1) × F a.0.0 = exact.sound t a.0 a.1 in
    (a.0.0, ap (λ p. p.0) e, x.0 ∙ ap (λ p. before (f a.0.0) p.1) e, x.1)

pub built_last : {A B : Type 0} (r : List ℕ → Read A) (f : A → List (List ℕ)) (F : A → Type 0) (make : A → B) → ExactLast r f F → (t : List ℕ) (q : B × List ℕ)
    → (r t >>= made make) ≡ Some q → (a : A) × (make a ≡ q.0) × (t ≡ before (f a) q.1) × F a
built_last {A} {B} r f F make exact t q h =
    let a = parts (r t) (made make) q h in
    let e : (make a.0.0, a.0.1) ≡ q = some_same _ q a.2 in
    let x : (t ≡ before (f a.0.0) a.0.1) × F a.0.0 = exact.sound t a.0 a.1 in
    (a.0.0, ap (λ p. p.0) e, x.0 ∙ ap (λ p. before (f a.0.0) p.1) e, x.1)

pub built_again : {A B : Type 0} (r : List ℕ → Read A) (f : A → List (List ℕ)) (F : A → Type 0) (make : A → B) → ExactAt r f F → (a : A) (more : List (List ℕ)) → F a
    → (r (line_end (f a ++ more)) >>= made make) ≡ Some (make a, line_end more)
built_again r f F make exact a more fits = ap (λ o. o >>= made make) (exact.complete a more fits)

pub built_whole : {A B : Type 0} (r : List ℕ → Read A) (f : A → List (List ℕ)) (F : A → Type 0) (make : A → B) → ExactLast r f F → (a : A) → F a
    → (r (line_end (f a)) >>= made make) ≡ Some (make a, 10 ∷ [])
built_whole r f F make exact a fits = ap (λ o. o >>= made make) (exact.whole a fits)
