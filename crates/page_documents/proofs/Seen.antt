-- What is found at the number of a node, in a tree that is seen as the elements of a world.
use Rattle.std.proofs.Common.{◌≡◌, ℕ, List, map, Option, Some, None, slice_get, ◌<◌, length, option_map, unwrap_or, refl, ap, sym, subst, ◌∙◌}
use Rattle.std.proofs.lemmas.List.{length-map}
use Rattle.std.proofs.lemmas.Option.{slice_get-map}
use Rattle.page_model.specs.World.{Element, Document}
use Rattle.page_model.specs.Lookups.{element_at, no_element}
use Rattle.element_tree.specs.Forest.{Knot, Forest, parent_of, children_of, parent_in, children_in}
use Rattle.page_documents.specs.Seen.{Carried, element_of, seen_tree}

module _ {P : Type 0} (carried : P → Carried) where
  -- the element that stands for what is found
  abbrev pub found : Option (Knot P) → Element
  found None = no_element
  found (Some knot) = element_of carried knot

  shown_found : (it : Option (Knot P)) → unwrap_or (option_map (element_of carried) it) no_element ≡ found it
  shown_found None = refl
  shown_found (Some knot) = refl

  found_parent : (it : Option (Knot P)) → (found it).parent ≡ parent_in it
  found_parent None = refl
  found_parent (Some knot) = refl

  found_children : (it : Option (Knot P)) → (found it).children ≡ children_in it
  found_children None = refl
  found_children (Some knot) = refl

  module _ (forest : Forest P) (documents : List Document) (n : ℕ) where
    pub element_seen : element_at (seen_tree carried forest documents) n ≡ found (slice_get forest.nodes n)
    element_seen = ap (λ it. unwrap_or it no_element) (slice_get-map (element_of carried) forest.nodes n) ∙ shown_found (slice_get forest.nodes n)

    pub parent_seen : (element_at (seen_tree carried forest documents) n).parent ≡ parent_of forest.nodes n
    parent_seen = ap (λ (it : Element). it.parent) element_seen ∙ found_parent (slice_get forest.nodes n)

    pub children_seen : (element_at (seen_tree carried forest documents) n).children ≡ children_of forest.nodes n
    children_seen = ap (λ (it : Element). it.children) element_seen ∙ found_children (slice_get forest.nodes n)

    found_payload : (it : Option (Knot P)) (payload : P) → option_map (λ (knot : Knot P). knot.payload) it ≡ Some payload → (found it).framed
        ≡ (carried payload).framed
    found_payload None payload is = cc
    found_payload (Some knot) payload is = ap (λ (p : P). (carried p).framed) (let e : knot.payload ≡ payload = cc in e)

    found_owner : (it : Option (Knot P)) (payload : P) → option_map (λ (knot : Knot P). knot.payload) it ≡ Some payload → (found it).document
        ≡ (carried payload).document
    found_owner None payload is = cc
    found_owner (Some knot) payload is = ap (λ (p : P). (carried p).document) (let e : knot.payload ≡ payload = cc in e)

    pub owner_seen : (payload : P) → option_map (λ (knot : Knot P). knot.payload) (slice_get forest.nodes n) ≡ Some payload
        → (element_at (seen_tree carried forest documents) n).document ≡ (carried payload).document
    owner_seen payload is = ap (λ (it : Element). it.document) element_seen ∙ found_owner (slice_get forest.nodes n) payload is

    pub framed_seen : (payload : P) → option_map (λ (knot : Knot P). knot.payload) (slice_get forest.nodes n) ≡ Some payload
        → (element_at (seen_tree carried forest documents) n).framed ≡ (carried payload).framed
    framed_seen payload is = ap (λ (it : Element). it.framed) element_seen ∙ found_payload (slice_get forest.nodes n) payload is

pub node_there : {P : Type 0} (carried : P → Carried) (nodes : List (Knot P)) (n : ℕ) → n < length nodes → n < length (map (element_of carried) nodes)
node_there carried nodes n inside = subst (λ k. n < k) (sym (length-map nodes (element_of carried))) inside
