-- What is found by climbing from frame to frame is the same however many frames are looked at, once they are enough.
use Rattle.std.proofs.Common.{◌≡◌, ◌≤◌, ℕ, zero, suc, true, length, Option, Some, None, refl, ap, sym, ◌∙◌, arith}
use Rattle.page_model.specs.World.{Tree}
use Rattle.page_model.specs.Lookups.{element_at, document_at}
use Rattle.page_model.specs.Documents.{first_of_list, is_active}
use Rattle.page_documents.specs.Paths.{way_down}
use Rattle.page_documents.specs.Frames.{AreFramed}
use Rattle.page_geometry.specs.Ranks.{level_by, level_up, level_of}
use Rattle.page_boxes.proofs.Views.{way_less, no_way, path_leads}

module _ (tree : Tree) (framed : AreFramed tree) where
  abbrev pub around : ℕ → ℕ
  around frame = (element_at tree frame).document

  module _ {A : Type 0} (up : ℕ → ℕ → A) (none : A) (next : ℕ → A → A)
      (unframed : (high document : ℕ) → (document_at tree document).frame ≡ None → up high document ≡ none)
      (framed_by : (high document frame : ℕ) → (document_at tree document).frame ≡ Some frame → up (suc high) document ≡ next frame (up high (around frame))) where
    ended : (high document : ℕ) → first_of_list (way_down 1 tree document) ≡ Some 0 → (frame : Option ℕ) → (document_at tree document).frame ≡ frame
        → up high document ≡ up 0 document
    ended high document leads None is = unframed high document is ∙ sym (unframed 0 document is)
    ended high document leads (Some frame) is = absurd (no_way tree framed 0 (around frame) refl (way_less tree framed document frame is 1 0 refl leads))

    further : (high most document : ℕ) → (frame : Option ℕ) → (document_at tree document).frame ≡ frame
        → ((n : ℕ) → (document_at tree document).frame ≡ Some n → up high (around n) ≡ up most (around n)) → up (suc high) document ≡ up (suc most) document
    further high most document None is same = unframed (suc high) document is ∙ sym (unframed (suc most) document is)
    further high most document (Some frame) is same =
        framed_by high document frame is ∙ ap (next frame) (same frame is) ∙ sym (framed_by most document frame is)

    pub steady : (most document : ℕ) → first_of_list (way_down (suc most) tree document) ≡ Some 0 → (high : ℕ) → most ≤ high → up high document ≡ up most document
    steady zero document leads high enough = ended high document leads (document_at tree document).frame refl
    steady (suc most) document leads zero enough = absurd (omega arith)
    steady (suc most) document leads (suc high) enough =
        further high most document (document_at tree document).frame refl
        (λ frame is. steady most (around frame) (way_less tree framed document frame is (suc (suc most)) (suc most) refl leads) high (omega arith))

  -- the number of documents is one more than that of frames around an Active one
  pub count_is : (document : ℕ) → is_active tree document ≡ true → (count : ℕ) → length tree.documents ≡ count
      → (less : ℕ) × (count ≡ suc less) × (first_of_list (way_down (suc less) tree document) ≡ Some 0)
  count_is document active zero is = absurd (no_way tree framed (length tree.documents) document is (path_leads tree framed document active))
  count_is document active (suc less) is = (less, refl, ap (λ count. first_of_list (way_down count tree document)) (sym is) ∙ path_leads tree framed document active)

  level_unframed : (high document : ℕ) → (document_at tree document).frame ≡ None → level_up high tree document ≡ 0
  unfolding level_up
  level_unframed zero document is = refl
  level_unframed (suc high) document is = ap (level_by (level_up high tree) tree) is

  level_framed : (high document frame : ℕ) → (document_at tree document).frame ≡ Some frame → level_up (suc high) tree document ≡ suc (level_up high tree (around frame))
  unfolding level_up
  level_framed high document frame is = ap (level_by (level_up high tree) tree) is

  module _ (few : length tree.documents ≤ 64) where
    -- a document in the frame of an Active one
    pub level_more : (document frame : ℕ) → (document_at tree document).frame ≡ Some frame → is_active tree (around frame) ≡ true
        → level_of tree document ≡ suc (level_of tree (around frame))
    level_more document frame is active =
        let counted = count_is (around frame) active (length tree.documents) refl in
        let enough : counted.0 ≤ 63 = omega (arith, counted.1, few) in
        let same = steady (λ high d. level_up high tree d) 0 (λ f level. suc level) level_unframed level_framed counted.0 (around frame) counted.2 in
        level_framed 63 document frame is
        ∙ ap suc (same 63 enough ∙ sym (same 64 (omega (arith, enough))))

  pub level_some : (document frame : ℕ) → (document_at tree document).frame ≡ Some frame → (more : ℕ) × (level_of tree document ≡ suc more)
  level_some document frame is = (level_up 63 tree (around frame), level_framed 63 document frame is)

  level_bound : (high : ℕ) → ((d : ℕ) → level_up high tree d ≤ high) → (frame : Option ℕ) → level_by (level_up high tree) tree frame ≤ suc high
  level_bound high below None = omega arith
  level_bound high below (Some frame) = omega (arith, below (around frame))

  -- so many levels there are at most
  pub level_most : (high document : ℕ) → level_up high tree document ≤ high
  unfolding level_up
  level_most zero document = omega arith
  level_most (suc high) document = level_bound high (level_most high) (document_at tree document).frame
