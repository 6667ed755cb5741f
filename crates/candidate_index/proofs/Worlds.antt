-- What is found over a world's containers, clips and boxes is the world's finding.
use Rattle.std.proofs.Common.{◌≡◌, ◌∙◌, ℕ, Bool, true, false, cond, List, ◌∷◌, Option, Some, None, ap, refl, sym, unwrap_or, option_map, is_some}
use Rattle.px_units.specs.declared.Point.{Point}
use Rattle.px_units.specs.declared.Rect.{Rect}
use Rattle.script_model.specs.Margins.{Margins}
use Rattle.page_model.specs.Shown.{Shown, has_box}
use Rattle.page_model.specs.World.{Root, ImplicitRoot, DocumentRoot, ElementRoot, IntersectionObserver}
use Rattle.page_model.specs.Chains.{zero_rect, moved_back, moved_out, origin_of_element, border_rect, padding_rect, clips_in, clips_for, common_part, element_root_bounds, root_bounds as root_bounds_in, root_rect}
use Rattle.page_model.specs.Findings.{Relation, Apart, Boxless, Chained, is_apart, relation, unseen, seen_at, found, finding, root_origin}
use Rattle.element_tree.specs.declared.container.Container.{Container}
use Rattle.clip_chain.specs.Scenes.{root_bounds}
use Rattle.clip_chain.specs.Visible.{part_between}
use Rattle.clip_chain.specs.Worlds.{scene_of, scene_for, element_spot, spot_of_root}
use Rattle.clip_chain.proofs.Worlds.{part_is_for, root_alone}
use Rattle.candidate_index.specs.Findings.{limits_of, seen, finding_over}
use Rattle.candidate_index.specs.Registrations.{IfChained}
use Rattle.candidate_index.specs.Worlds.{standing_in, told_cut, told, IsChain}

-- a root element, by whether it has a box and clips
element_bounds : (b c : Bool) (padding border : Rect) → unwrap_or (cond b (cond c (Some padding) None) None) (cond b border zero_rect) ≡ cond b (cond c padding border) zero_rect
element_bounds true true padding border = refl
element_bounds true false padding border = refl
element_bounds false c padding border = refl

by_box : (shown : Shown) (element : ℕ) (b : Bool) → element_root_bounds shown element b ≡ cond b (cond (clips_in shown element) (padding_rect shown element) (border_rect shown element)) zero_rect
by_box shown element true = refl
by_box shown element false = refl

pub same_bounds : (shown : Shown) (root : Root) → root_bounds (scene_of shown) (spot_of_root root) ≡ root_bounds_in shown root
same_bounds shown ImplicitRoot = refl
same_bounds shown (DocumentRoot document) = refl
same_bounds shown (ElementRoot element) =
    element_bounds (has_box shown element) (clips_in shown element) (padding_rect shown element) (border_rect shown element)
    ∙ sym (by_box shown element (has_box shown element))

same_limits : (shown : Shown) (margins : Margins) (observer : IntersectionObserver) → limits_of (scene_for shown observer.root margins) observer ≡ root_rect shown observer.root observer.margins
unfolding root_rect
same_limits shown margins observer = ap (moved_out observer.margins) (root_alone shown margins observer.root ∙ same_bounds shown observer.root)

-- what is seen, moved
cut_moved : (from : Point) (cut : Option Rect) → unwrap_or (option_map (moved_back from) cut) zero_rect ≡ told_cut (is_some cut) from (unwrap_or cut zero_rect)
cut_moved from None = refl
cut_moved from (Some part) = refl

by_relation : (b c : Bool) → cond b Apart (cond c Chained Boxless) ≡ Chained → c ≡ true
by_relation true c e = let wrong : Apart ≡ Chained = e in absurd (let no : ⊥ = cc in no)
by_relation false true e = refl
by_relation false false e = let wrong : Boxless ≡ Chained = e in absurd (let no : ⊥ = cc in no)

moved_whole : (thresholds : List ℕ) (at : Point) (root box : Rect) (cut : Option Rect) → seen_at thresholds at box cut root ≡ record (seen thresholds box cut root) { bounds = moved_back at box; cut = told_cut (is_some cut) at (unwrap_or cut zero_rect) }
moved_whole thresholds at root box cut =
    ap (λ (part : Rect). record (seen thresholds box cut root) { bounds = moved_back at box; cut = part }) (cut_moved at cut)

by_case : (shown : Shown) (margins : Margins) (observer : IntersectionObserver) (target : ℕ) (between : List Container) (r : Relation) → (r ≡ Chained → has_box shown target ≡ true) → IfChained (standing_in r) (IsChain shown observer.root target between)
    → found shown margins observer target (moved_back (root_origin shown observer.root) (root_rect shown observer.root observer.margins)) r ≡ told shown observer target r (finding_over (scene_for shown observer.root margins) (standing_in r) observer target between)
by_case shown margins observer target between Apart boxed chain =
    ap (λ (limits : Rect). unseen 0 (moved_back (root_origin shown observer.root) limits)) (sym (same_limits shown margins observer))
by_case shown margins observer target between Boxless boxed chain =
    ap (λ (limits : Rect). found shown margins observer target (moved_back (root_origin shown observer.root) limits) Boxless) (sym (same_limits shown margins observer))
by_case shown margins observer target between Chained boxed chain =
    let from = origin_of_element shown target in
    let limits = root_rect shown observer.root observer.margins in
    let bounds : (scene_of shown).bounds (element_spot target) ≡ border_rect shown target = ap (λ b. cond b (border_rect shown target) zero_rect) (boxed refl) in
    let part : part_between (scene_for shown observer.root margins) (element_spot target) between (limits_of (scene_for shown observer.root margins) observer) ≡ common_part (border_rect shown target) (limits ∷ clips_for shown margins observer.root target) =
    part_is_for shown margins observer.root target between (limits_of (scene_for shown observer.root margins) observer) chain.0 chain.1
    ∙ ap (λ (r : Rect). common_part (border_rect shown target) (r ∷ clips_for shown margins observer.root target)) (same_limits shown margins observer) in
    moved_whole observer.thresholds from (moved_back (root_origin shown observer.root) limits) (border_rect shown target) (common_part (border_rect shown target) (limits ∷ clips_for shown margins observer.root target))
    ∙ sym (λ i. told shown observer target Chained (seen observer.thresholds (bounds i) (part i) (same_limits shown margins observer i)))

pub world_finding : (shown : Shown) (margins : Margins) (observer : IntersectionObserver) (target : ℕ) (between : List Container) → IfChained (standing_in (relation shown observer.root target)) (IsChain shown observer.root target between)
    → finding shown margins observer target ≡ told shown observer target (relation shown observer.root target) (finding_over (scene_for shown observer.root margins) (standing_in (relation shown observer.root target)) observer target between)
unfolding finding
world_finding shown margins observer target between chain =
    by_case shown margins observer target between (relation shown observer.root target)
    (by_relation (is_apart shown observer.root target) (has_box shown target)) chain
