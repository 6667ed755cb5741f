-- The tree has two nodes, numbered 0 and 1, and the second goes into the first.
use Rattle.std.proofs.Common.{◌≡◌, ◌++◌, ℕ, List, [], ◌∷◌, length, None, ap, ◌∙◌, arith}
use Rattle.element_tree.specs.Edits.{inserted, lone}
use Rattle.element_tree.specs.Forest.{Knot, parent_of}
use Rattle.box_tests.proofs.Added.{ok_is, if_ok, on_ok}
use Rattle.box_tests.proofs.readme_examples.see_card.Goals as goal

two : {P : Type 0} (a b : P) (none first second : List (Knot P)) → none ≡ [] → first ≡ none ++ lone a ∷ [] → second ≡ first ++ lone b ∷ [] → second ≡ lone a ∷ lone b ∷ []
two a b none first second empty one more = more ∙ ap (λ xs. xs ++ lone b ∷ []) (one ∙ ap (λ xs. xs ++ lone a ∷ []) empty)

root_stays : {P : Type 0} (a b : P) (nodes done : List (Knot P)) (root child : ℕ) → nodes ≡ lone a ∷ lone b ∷ [] → root ≡ 0 → child ≡ 1 → done ≡ inserted root child None nodes → parent_of done root ≡ None
root_stays a b nodes done root child are zero one is =
    ap (λ xs. parent_of xs root) (is ∙ ap (inserted root child None) are ∙ ap (λ n. inserted n child None (lone a ∷ lone b ∷ [])) zero ∙ ap (λ n. inserted 0 n None (lone a ∷ lone b ∷ [])) one)
    ∙ ap (parent_of (inserted 0 1 None (lone a ∷ lone b ∷ []))) zero

pub append-requires-clause-parent : goal.append-requires-clause-parent
append-requires-clause-parent g c =
    let page = ok_is c.add.result c.map_err.result c.in_ok-page.page _ c.map_err.ensures.cases c.in_ok-page.was c.in_ok-page.ensures.variant in
    let card = ok_is c.add-2.result c.map_err-2.result c.in_ok-card.card _ c.map_err-2.ensures.cases c.in_ok-card.was c.in_ok-card.ensures.variant in
    let first : c.in_ok-page.page.0 ≡ length c.new-tree.result.nodes = if_ok _ _ _ page c.add.ensures.node in
    let nodes = two c.styled.result c.styled-2.result c.new-tree.result.nodes c.add.new.self.nodes c.add-2.new.self.nodes c.new-tree.ensures.empty (ap (λ f. f.nodes) (on_ok _ _ _ page c.add.ensures.added)) (ap (λ f. f.nodes) (on_ok _ _ _ card c.add-2.ensures.added)) in
    let count : length c.add-2.new.self.nodes ≡ 2 = ap length nodes in
    let none : length c.new-tree.result.nodes ≡ 0 = ap length c.new-tree.ensures.empty in
    omega arith

pub append-requires-clause-child : goal.append-requires-clause-child
append-requires-clause-child g c =
    let page = ok_is c.add.result c.map_err.result c.in_ok-page.page _ c.map_err.ensures.cases c.in_ok-page.was c.in_ok-page.ensures.variant in
    let card = ok_is c.add-2.result c.map_err-2.result c.in_ok-card.card _ c.map_err-2.ensures.cases c.in_ok-card.was c.in_ok-card.ensures.variant in
    let second : c.in_ok-card.card.0 ≡ length c.add.new.self.nodes = if_ok _ _ _ card c.add-2.ensures.node in
    let one : length c.add.new.self.nodes ≡ 1 = ap (λ f. length f.nodes) (on_ok _ _ _ page c.add.ensures.added) ∙ ap (λ xs. length (xs ++ lone c.styled.result ∷ [])) c.new-tree.ensures.empty in
    let nodes = two c.styled.result c.styled-2.result c.new-tree.result.nodes c.add.new.self.nodes c.add-2.new.self.nodes c.new-tree.ensures.empty (ap (λ f. f.nodes) (on_ok _ _ _ page c.add.ensures.added)) (ap (λ f. f.nodes) (on_ok _ _ _ card c.add-2.ensures.added)) in
    let count : length c.add-2.new.self.nodes ≡ 2 = ap length nodes in
    omega arith

pub refresh-requires-clause-node : goal.refresh-requires-clause-node
refresh-requires-clause-node g c =
    let page = ok_is c.add.result c.map_err.result c.in_ok-page.page _ c.map_err.ensures.cases c.in_ok-page.was c.in_ok-page.ensures.variant in
    let card = ok_is c.add-2.result c.map_err-2.result c.in_ok-card.card _ c.map_err-2.ensures.cases c.in_ok-card.was c.in_ok-card.ensures.variant in
    let first : c.in_ok-page.page.0 ≡ length c.new-tree.result.nodes = if_ok _ _ _ page c.add.ensures.node in
    let nodes = two c.styled.result c.styled-2.result c.new-tree.result.nodes c.add.new.self.nodes c.add-2.new.self.nodes c.new-tree.ensures.empty (ap (λ f. f.nodes) (on_ok _ _ _ page c.add.ensures.added)) (ap (λ f. f.nodes) (on_ok _ _ _ card c.add-2.ensures.added)) in
    let count : length c.add-2.new.self.nodes ≡ 2 = ap length nodes in
    let none : length c.new-tree.result.nodes ≡ 0 = ap length c.new-tree.ensures.empty in
    let same : length c.append.new.self.nodes ≡ length c.add-2.new.self.nodes = c.append.ensures.count in
    omega arith

pub refresh-requires-clause-top : goal.refresh-requires-clause-top
refresh-requires-clause-top g c =
    let page = ok_is c.add.result c.map_err.result c.in_ok-page.page _ c.map_err.ensures.cases c.in_ok-page.was c.in_ok-page.ensures.variant in
    let card = ok_is c.add-2.result c.map_err-2.result c.in_ok-card.card _ c.map_err-2.ensures.cases c.in_ok-card.was c.in_ok-card.ensures.variant in
    let nodes = two c.styled.result c.styled-2.result c.new-tree.result.nodes c.add.new.self.nodes c.add-2.new.self.nodes c.new-tree.ensures.empty (ap (λ f. f.nodes) (on_ok _ _ _ page c.add.ensures.added)) (ap (λ f. f.nodes) (on_ok _ _ _ card c.add-2.ensures.added)) in
    root_stays c.styled.result c.styled-2.result c.add-2.new.self.nodes c.append.new.self.nodes c.in_ok-page.page.0 c.in_ok-card.card.0 nodes
    (if_ok _ _ _ page c.add.ensures.node ∙ ap length c.new-tree.ensures.empty)
    (if_ok _ _ _ card c.add-2.ensures.node ∙ ap (λ f. length f.nodes) (on_ok _ _ _ page c.add.ensures.added) ∙ ap (λ xs. length (xs ++ lone c.styled.result ∷ [])) c.new-tree.ensures.empty)
    (ap (λ f. f.nodes) c.in_ok-append.ensures.done)
