-- The text of a page's script, line by line.
use Rattle.std.proofs.Common.{◌≡◌, ◌≤◌, ◌<◌, ◌∙◌, ℕ, zero, suc, ◌+◌, Bool, true, false, ◌==◌, List, [], ◌∷◌, ◌++◌, length, take, get_or, refl, sym, ap}
use Rattle.std.specs.Prelude.{slice_range}
use Rattle.std.proofs.lemmas.Bool.{eqb-true, eqb-false}
use Rattle.page_stream.specs.declared.stream.Part.{Part}
use Rattle.page_stream.specs.Parts.{parts_of}
use Rattle.page_stream.proofs.Bounds.{text_in, script_more, script_same}

-- what is beyond the bytes that are kept makes no difference later
take_front : (n : ℕ) (a b : List ℕ) → take n (take n a ++ b) ≡ take n (a ++ b)
take_front zero a b = refl
take_front (suc n) [] b = refl
take_front (suc n) (x ∷ a) b = ap (λ xs. x ∷ xs) (take_front n a b)

abbrev pub IsFedTo : ℕ → List ℕ → ℕ → List ℕ → Type 0
IsFedTo page source k text = text ≡ take 16777217 (text_in page source (take k (parts_of source)))

module _ (page : ℕ) (source : List ℕ) {parts : List Part} (k : ℕ) (d : Part) (are : parts ≡ parts_of source) (less : k < length parts) (old new : List ℕ) (so_far : IsFedTo page source k old) where
  by_page : (same : Bool) → ((get_or parts k d).page == page) ≡ same
      → ((get_or parts k d).page ≡ page → new ≡ take 16777217 (old ++ slice_range source ((get_or parts k d).from) ((get_or parts k d).to)))
      → (((get_or parts k d).page ≡ page → ⊥) → new ≡ old) → IsFedTo page source (k + 1) new
  by_page true is own other =
      let of_page = eqb-true ((get_or parts k d).page) page is in
      let text = slice_range source ((get_or parts k d).from) ((get_or parts k d).to) in
      own of_page
      ∙ ap (λ script. take 16777217 (script ++ text)) so_far
      ∙ take_front 16777217 (text_in page source (take k (parts_of source))) text
      ∙ ap (take 16777217) (script_more page source k d are less of_page refl refl refl)
  by_page false is own other =
      let apart = eqb-false ((get_or parts k d).page) page is in
      other apart ∙ so_far ∙ ap (take 16777217) (script_same page source k d are less apart refl refl)

  pub fed_on : ((get_or parts k d).page ≡ page → new ≡ take 16777217 (old ++ slice_range source ((get_or parts k d).from) ((get_or parts k d).to)))
      → (((get_or parts k d).page ≡ page → ⊥) → new ≡ old) → IsFedTo page source (k + 1) new
  fed_on own other = by_page ((get_or parts k d).page == page) refl own other

take_nil : (n : ℕ) → take {A = ℕ} n [] ≡ []
take_nil zero = refl
take_nil (suc n) = refl

pub fed_none : (page : ℕ) (source : List ℕ) {text : List ℕ} → text ≡ [] → IsFedTo page source 0 text
fed_none page source none = none ∙ sym (take_nil 16777217)
