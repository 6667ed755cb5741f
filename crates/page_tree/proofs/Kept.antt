-- How many nodes there are after a removal, an insertion or an adoption, and their names.
use Rattle.std.proofs.Common.{◌≡◌, ℕ, zero, suc, List, [], ◌∷◌, map, length, Option, Some, None, refl, ap, ◌∙◌}
use Rattle.page_model.specs.Lookups.{change_at, change_each}
use Rattle.element_tree.specs.Forest.{Knot, parent_of}
use Rattle.element_tree.specs.Edits.{with_parent, with_children, put_before, without as taken_out, removed_from, removed, inserted}
use Rattle.element_tree.proofs.Nodes.{length-changed}
use Rattle.page_documents.specs.Adoption.{adopting}
use Rattle.page_tree.specs.Items.{Described, owned_by}
use Rattle.page_tree.specs.Views.{name_in}
use Rattle.page_tree.proofs.Changes.{change_unseen}

same_length : {P : Type 0} (parent : Option ℕ) (n : ℕ) (nodes : List (Knot P)) → length (removed_from parent n nodes) ≡ length nodes
same_length {P} None n nodes = refl
same_length {P} (Some p) n nodes = length-changed (with_parent {P = P} None) n _ ∙ length-changed (with_children {P = P} _) p nodes

pub length_removed : {P : Type 0} (n : ℕ) (nodes : List (Knot P)) → length (removed n nodes) ≡ length nodes
length_removed n nodes = same_length (parent_of nodes n) n nodes

pub length_inserted : {P : Type 0} (p n : ℕ) (mark : Option ℕ) (nodes : List (Knot P)) → length (inserted p n mark nodes) ≡ length nodes
length_inserted {P} p n mark nodes =
    length-changed (with_parent {P = P} (Some p)) n _ ∙ length-changed (with_children {P = P} (put_before mark n)) p (removed n nodes) ∙ length_removed n nodes

-- names stay, wherever an element stands
names_from : (parent : Option ℕ) (n : ℕ) (nodes : List (Knot Described)) → map name_in (removed_from parent n nodes) ≡ map name_in nodes
names_from None n nodes = refl
names_from (Some p) n nodes =
    change_unseen name_in (with_parent None) n _ (λ knot is. refl) ∙ change_unseen name_in (with_children (taken_out n)) p nodes (λ knot is. refl)

pub names_removed : (n : ℕ) (nodes : List (Knot Described)) → map name_in (removed n nodes) ≡ map name_in nodes
names_removed n nodes = names_from (parent_of nodes n) n nodes

pub names_inserted : (p n : ℕ) (mark : Option ℕ) (nodes : List (Knot Described)) → map name_in (inserted p n mark nodes) ≡ map name_in nodes
names_inserted p n mark nodes =
    change_unseen name_in (with_parent (Some p)) n _ (λ knot is. refl)
    ∙ change_unseen name_in (with_children (put_before mark n)) p (removed n nodes) (λ knot is. refl)
    ∙ names_removed n nodes

-- and whichever document it belongs to
named_still : (document place : ℕ) (nodes : List (Knot Described)) → map name_in (change_at (adopting owned_by document) place nodes) ≡ map name_in nodes
named_still document place [] = refl
named_still document zero (knot ∷ nodes) = refl
named_still document (suc place) (knot ∷ nodes) = ap (λ names. name_in knot ∷ names) (named_still document place nodes)

pub names_adopted : (document : ℕ) (places : List ℕ) (nodes : List (Knot Described)) → map name_in (change_each (adopting owned_by document) places nodes) ≡ map name_in nodes
names_adopted document [] nodes = refl
names_adopted document (place ∷ places) nodes =
    names_adopted document places (change_at (adopting owned_by document) place nodes) ∙ named_still document place nodes
