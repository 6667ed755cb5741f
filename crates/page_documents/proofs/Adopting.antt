-- Adoption of a subtree, one element and one child at a time.
use Rattle.std.proofs.Common.{◌≡◌, ◌<◌, ℕ, zero, suc, true, List, [], ◌∷◌, ◌++◌, map, flat_map, length, Option, Some, option_map, slice_get, refl, ap, sym, subst, ◌∙◌}
use Rattle.page_model.specs.World.{Element, Document, Tree}
use Rattle.page_model.specs.Lookups.{element_at, change_at, change_each}
use Rattle.page_model.specs.Documents.{order_down, inclusive_descendants, adopted}
use Rattle.element_tree.specs.declared.node.NodeId.{NodeId}
use Rattle.element_tree.specs.Forest.{Knot, Forest, IsForest, has, children_of, siblings_of, first_of, next_of, rest_from}
use Rattle.element_tree.specs.Links.{number, node_ids}
use Rattle.element_tree.proofs.Walks.{walk_whole, walk_among, walk_step, walk_on}
use Rattle.element_tree.specs.Edits.{with_nodes, with_payload, change_at as changed_at}
use Rattle.page_documents.specs.Seen.{Carried, element_of, seen_tree}
use Rattle.page_documents.specs.Adoption.{adopting, adopted_in}
use Rattle.page_documents.proofs.Seen.{children_seen}
use Rattle.element_tree.proofs.Nodes.{length-changed}

pub change_append : {A : Type 0} (f : A → A) (xs ys : List ℕ) (held : List A) → change_each f (xs ++ ys) held ≡ change_each f ys (change_each f xs held)
change_append f [] ys held = refl
change_append f (x ∷ xs) ys held = change_append f xs ys (change_at f x held)

pub changes_length : {A : Type 0} (f : A → A) (places : List ℕ) (held : List A) → length (change_each f places held) ≡ length held
changes_length f [] held = refl
changes_length f (place ∷ places) held = changes_length f places (change_at f place held) ∙ length-changed f place held

-- trees with the same children have the same order
flat_same : (f g : ℕ → List ℕ) → ((n : ℕ) → f n ≡ g n) → (xs : List ℕ) → flat_map f xs ≡ flat_map g xs
flat_same f g same [] = refl
flat_same f g same (x ∷ xs) = ap (λ ys. ys ++ flat_map f xs) (same x) ∙ ap (λ ys. g x ++ ys) (flat_same f g same xs)

pub order_same : (one other : Tree) → ((n : ℕ) → (element_at one n).children ≡ (element_at other n).children) → (high n : ℕ) → order_down high one n
    ≡ order_down high other n
unfolding order_down
order_same one other same zero n = refl
order_same one other same (suc high) n =
    ap (λ xs. n ∷ flat_map (order_down high one) xs) (same n)
    ∙ ap (λ xs. n ∷ xs) (flat_same (order_down high one) (order_down high other) (order_same one other same high) (element_at other n).children)

pub order_none : (tree : Tree) (high n : ℕ) → high ≡ 0 → order_down high tree n ≡ []
unfolding order_down
order_none tree high n is = ap (λ h. order_down h tree n) is

pub order_more : (tree : Tree) (high less n : ℕ) → high ≡ suc less → order_down high tree n ≡ n ∷ flat_map (order_down less tree) (element_at tree n).children
unfolding order_down
order_more tree high less n is = ap (λ h. order_down h tree n) is

module _ {P : Type 0} (carried : P → Carried) (give : ℕ → P → P) (document : ℕ) where
  -- one element is given away
  pub written : (nodes : List (Knot P)) (n : ℕ) (had now : P) → option_map (λ (knot : Knot P). knot.payload) (slice_get nodes n) ≡ Some had → now
      ≡ give document had
      → changed_at (with_payload now) n nodes ≡ change_at (adopting give document) n nodes
  written [] n had now is made = refl
  written (knot ∷ nodes) zero had now is made = ap (λ (p : P). (record knot { payload = p }) ∷ nodes) (made
      ∙ ap (give document) (let e : had ≡ knot.payload = cc in e))
  written (knot ∷ nodes) (suc n) had now is made = ap (λ ks. knot ∷ ks) (written nodes n had now is made)

  child_kept : (nodes : List (Knot P)) (place n : ℕ) → children_of (change_at (adopting give document) place nodes) n ≡ children_of nodes n
  child_kept [] place n = refl
  child_kept (knot ∷ nodes) zero zero = refl
  child_kept (knot ∷ nodes) zero (suc n) = refl
  child_kept (knot ∷ nodes) (suc place) zero = refl
  child_kept (knot ∷ nodes) (suc place) (suc n) = child_kept nodes place n

  pub children_kept : (places : List ℕ) (nodes : List (Knot P)) (n : ℕ) → children_of (change_each (adopting give document) places nodes) n
      ≡ children_of nodes n
  children_kept [] nodes n = refl
  children_kept (place ∷ places) nodes n = children_kept places (change_at (adopting give document) place nodes) n ∙ child_kept nodes place n

  pub kids_written : (nodes : List (Knot P)) (node : ℕ) (had now : P) → option_map (λ (knot : Knot P). knot.payload) (slice_get nodes node) ≡ Some had → now
      ≡ give document had
      → (n : ℕ) → children_of (changed_at (with_payload now) node nodes) n ≡ children_of nodes n
  kids_written nodes node had now is made n = ap (λ nodes. children_of nodes n) (written nodes node had now is made) ∙ child_kept nodes node n

  -- how far a walk over children has come
  pub record Adopts (first now : Forest P) (high node : ℕ) (left : List ℕ) : Type 0 where
    pub rest : now ≡ record first { nodes = now.nodes }
    pub kids : (n : ℕ) → children_of now.nodes n ≡ children_of first.nodes n
    pub count : length now.nodes ≡ length first.nodes
    pub walk : change_each (adopting give document) (flat_map (order_down high (seen_tree carried first [])) left) now.nodes
        ≡ change_each (adopting give document) (order_down (suc high) (seen_tree carried first []) node) first.nodes

  module _ (first : Forest P) (high node : ℕ) where
    pub adopts_first : (had payload : P) (now : Forest P) (left : List ℕ) → option_map (λ (knot : Knot P). knot.payload) (slice_get first.nodes node)
        ≡ Some had → payload ≡ give document had
        → now ≡ with_nodes (changed_at (with_payload payload) node) first → left ≡ children_of first.nodes node → Adopts first now high node left
    adopts_first had payload now left is made becomes whole =
        let nodes : now.nodes ≡ change_at (adopting give document) node first.nodes = ap (λ (it : Forest P). it.nodes) becomes
        ∙ written first.nodes node had payload is made in
        record {
          rest = becomes ∙ ap (λ nodes. let it : Forest P = record first { nodes = nodes } in it) (sym (ap (λ (it : Forest P). it.nodes) becomes));
          kids = λ n. ap (λ nodes. children_of nodes n) nodes ∙ child_kept first.nodes node n;
          count = ap (λ nodes. length nodes) nodes ∙ length-changed (adopting give document) node first.nodes;
          walk =
              ap (λ kids. change_each (adopting give document) (flat_map (order_down high (seen_tree carried first [])) kids) now.nodes) (whole
              ∙ sym (children_seen carried first [] node))
              ∙ ap (change_each (adopting give document) (flat_map (order_down high (seen_tree carried first []))
              (element_at (seen_tree carried first []) node).children)) nodes
              ∙ ap (λ places. change_each (adopting give document) places first.nodes)
              (sym (order_more (seen_tree carried first []) (suc high) high node refl));
        }

    pub kids_after : (now after : Forest P) (left places : List ℕ) → Adopts first now high node left → after
        ≡ with_nodes (change_each (adopting give document) places) now → (n : ℕ) → children_of after.nodes n ≡ children_of first.nodes n
    kids_after now after left places so_far becomes n = ap (λ (it : Forest P). children_of it.nodes n) becomes ∙ children_kept places now.nodes n
        ∙ so_far.kids n

    pub adopts_next : (kid : ℕ) (now after : Forest P) (left more : List ℕ) → Adopts first now high node left → left ≡ kid ∷ more
        → after ≡ with_nodes (change_each (adopting give document) (order_down high (seen_tree carried now []) kid)) now → Adopts first after high node more
    adopts_next kid now after left more so_far step becomes =
        let same : order_down high (seen_tree carried now []) kid ≡ order_down high (seen_tree carried first []) kid
        = order_same (seen_tree carried now []) (seen_tree carried first []) (λ n. children_seen carried now [] n ∙ so_far.kids n
        ∙ sym (children_seen carried first [] n)) high kid in
        let nodes : after.nodes ≡ change_each (adopting give document) (order_down high (seen_tree carried first []) kid) now.nodes
        = ap (λ (it : Forest P). it.nodes) becomes ∙ ap (λ places. change_each (adopting give document) places now.nodes) same in
        record {
          rest =
              becomes ∙ ap (λ (it : Forest P). let next : Forest P = record it
              { nodes = change_each (adopting give document) (order_down high (seen_tree carried now []) kid) now.nodes } in next) so_far.rest
              ∙ ap (λ nodes. let it : Forest P = record first { nodes = nodes } in it) (sym (ap (λ (it : Forest P). it.nodes) becomes));
          kids = λ n. ap (λ nodes. children_of nodes n) nodes ∙ children_kept (order_down high (seen_tree carried first []) kid) now.nodes n ∙ so_far.kids n;
          count = ap (λ nodes. length nodes) nodes ∙ changes_length (adopting give document) (order_down high (seen_tree carried first []) kid) now.nodes
              ∙ so_far.count;
          walk =
              ap (change_each (adopting give document) (flat_map (order_down high (seen_tree carried first [])) more)) nodes
              ∙ sym (change_append (adopting give document) (order_down high (seen_tree carried first []) kid)
              (flat_map (order_down high (seen_tree carried first [])) more) now.nodes)
              ∙ ap (λ kids. change_each (adopting give document) (flat_map (order_down high (seen_tree carried first [])) kids) now.nodes) (sym step)
              ∙ so_far.walk;
        }

    pub adopts_all : (now : Forest P) (left : List ℕ) (tall : ℕ) → Adopts first now high node left → left ≡ [] → tall ≡ suc high
        → now ≡ with_nodes (change_each (adopting give document) (order_down tall (seen_tree carried first []) node)) first
    adopts_all now left tall so_far done more =
        let nodes : now.nodes ≡ change_each (adopting give document) (order_down tall (seen_tree carried first []) node) first.nodes
        = sym (ap (λ kids. change_each (adopting give document) (flat_map (order_down high (seen_tree carried first [])) kids) now.nodes) done) ∙ so_far.walk
        ∙ ap (λ h. change_each (adopting give document) (order_down h (seen_tree carried first []) node) first.nodes) (sym more) in
        so_far.rest ∙ ap (λ nodes. let it : Forest P = record first { nodes = nodes } in it) nodes

-- what is known of a child that a walk meets in a tree with these children
pub record Met (kids : List ℕ) (next after : Option NodeId) (child : NodeId) : Type 0 where
  pub step : rest_from (option_map number next) kids ≡ child.0 ∷ rest_from (option_map number after) kids
  pub among : (c : ℕ) → option_map number after ≡ Some c → has kids c ≡ true

pub met : {P : Type 0} {most : ℕ} {nodes : List (Knot P)} → IsForest most nodes → (n : ℕ) (kids : List ℕ) → children_of nodes n ≡ kids
    → (next after : Option NodeId) (child : NodeId) → next ≡ Some child
    → ((c : ℕ) → option_map number next ≡ Some c → has kids c ≡ true) → after ≡ node_ids (next_of (child.0) (siblings_of nodes (child.0)))
    → Met kids next after child
met {nodes = nodes} forest n kids same next after child is among after_is =
    subst (λ kids. Met kids next after child) same
    (let here : (c : ℕ) → option_map number next ≡ Some c → has (children_of nodes n) c ≡ true = λ c held. ap (λ xs. has xs c) same ∙ among c held in
    record { step = walk_step forest n next child is here after after_is; among = walk_on forest n next child is here after after_is })

pub adopted_whole : {P : Type 0} (carried : P → Carried) (give : ℕ → P → P) (document : ℕ) (forest : Forest P) (n : ℕ)
    → with_nodes (change_each (adopting give document) (order_down 65536 (seen_tree carried forest []) n)) forest ≡ adopted_in carried give document n forest
unfolding inclusive_descendants
adopted_whole carried give document forest n = refl

pub walk_begun : {P : Type 0} {most : ℕ} {nodes : List (Knot P)} → IsForest most nodes → (n : ℕ) (kids : List ℕ) → children_of nodes n ≡ kids
    → (next : Option NodeId) → next ≡ node_ids (first_of (children_of nodes n))
    → (rest_from (option_map number next) kids ≡ kids) × ((c : ℕ) → option_map number next ≡ Some c → has kids c ≡ true)
walk_begun forest n kids same next is =
    subst (λ kids. (rest_from (option_map number next) kids ≡ kids) × ((c : ℕ) → option_map number next ≡ Some c → has kids c
    ≡ true)) same (walk_whole forest n next is, walk_among forest n next is)

-- what adoption makes of the elements that are seen
module _ {P : Type 0} (carried : P → Carried) (give : ℕ → P → P) (law : (document : ℕ) (it : P) → carried (give document it)
    ≡ record (carried it) { document = document }) (document : ℕ) where
  abbrev owned : Element → Element
  owned element = record element { document = document }

  seen_at : (place : ℕ) (nodes : List (Knot P)) → map (element_of carried) (change_at (adopting give document) place nodes)
      ≡ change_at owned place (map (element_of carried) nodes)
  seen_at place [] = refl
  seen_at zero (knot ∷ nodes) =
      ap (λ (it : Carried). (record { item = it.item; parent = knot.parent; children = knot.children; document = it.document; framed = it.framed }) ∷ map
      (element_of carried) nodes) (law document knot.payload)
  seen_at (suc place) (knot ∷ nodes) = ap (λ elements. element_of carried knot ∷ elements) (seen_at place nodes)

  seen_each : (places : List ℕ) (nodes : List (Knot P)) → map (element_of carried) (change_each (adopting give document) places nodes)
      ≡ change_each owned places (map (element_of carried) nodes)
  seen_each [] nodes = refl
  seen_each (place ∷ places) nodes = seen_each places (change_at (adopting give document) place nodes) ∙ ap (change_each owned places) (seen_at place nodes)

  pub seen_adopted : (forest after : Forest P) (documents : List Document) (n : ℕ) → after ≡ adopted_in carried give document n forest
      → seen_tree carried after documents ≡ adopted (seen_tree carried forest documents) document n
  unfolding adopted inclusive_descendants
  seen_adopted forest after documents n becomes =
      ap (λ (it : Forest P). seen_tree carried it documents) becomes
      ∙ ap (λ elements. let tree : Tree = record { elements = elements; documents = documents } in tree)
      (seen_each (order_down 65536 (seen_tree carried forest []) n) forest.nodes)
      ∙ ap (λ places. let tree : Tree = record { elements = change_each owned places (map (element_of carried) forest.nodes); documents = documents } in tree)
      (order_same (seen_tree carried forest []) (seen_tree carried forest documents) (λ m. children_seen carried forest [] m
      ∙ sym (children_seen carried forest documents m)) 65536 n)

pub adopted_count : {P : Type 0} (carried : P → Carried) (give : ℕ → P → P) (document n m : ℕ) (forest after : Forest P) → after
    ≡ adopted_in carried give document n forest → m < length forest.nodes → m < length after.nodes
adopted_count carried give document n m forest after becomes inside =
    subst (λ k. m < k) (sym (ap (λ (it : Forest _). length it.nodes) becomes
    ∙ changes_length (adopting give document) (inclusive_descendants (seen_tree carried forest []) n) forest.nodes)) inside
