-- The tree has three nodes, numbered from 0 on.
use Rattle.std.proofs.Common.{◌≡◌, ◌+◌, length, length-append, ap, ◌∙◌, arith}
use Rattle.box_tests.proofs.Added.{ok_is, if_ok, on_ok}
use Rattle.box_tests.proofs.readme_examples.a_badge_is_held_by_its_card.Goals as goal

pub append-requires-clause-parent : goal.append-requires-clause-parent
append-requires-clause-parent g c =
    let page = ok_is c.add.result c.map_err.result c.in_ok-page.page _ c.map_err.ensures.cases c.in_ok-page.was c.in_ok-page.ensures.variant in
    let card = ok_is c.add-2.result c.map_err-2.result c.in_ok-card.card _ c.map_err-2.ensures.cases c.in_ok-card.was c.in_ok-card.ensures.variant in
    let badge = ok_is c.add-3.result c.map_err-3.result c.in_ok-badge.badge _ c.map_err-3.ensures.cases c.in_ok-badge.was c.in_ok-badge.ensures.variant in
    let none : length c.new-tree.result.nodes ≡ 0 = ap length c.new-tree.ensures.empty in
    let first : c.in_ok-page.page.0 ≡ length c.new-tree.result.nodes = if_ok _ _ _ page c.add.ensures.node in
    let one : length c.add.new.self.nodes ≡ length c.new-tree.result.nodes + 1 = ap (λ f. length f.nodes) (on_ok _ _ _ page c.add.ensures.added) ∙ length-append _ _ in
    let second : c.in_ok-card.card.0 ≡ length c.add.new.self.nodes = if_ok _ _ _ card c.add-2.ensures.node in
    let two : length c.add-2.new.self.nodes ≡ length c.add.new.self.nodes + 1 = ap (λ f. length f.nodes) (on_ok _ _ _ card c.add-2.ensures.added) ∙ length-append _ _ in
    let third : c.in_ok-badge.badge.0 ≡ length c.add-2.new.self.nodes = if_ok _ _ _ badge c.add-3.ensures.node in
    let three : length c.add-3.new.self.nodes ≡ length c.add-2.new.self.nodes + 1 = ap (λ f. length f.nodes) (on_ok _ _ _ badge c.add-3.ensures.added) ∙ length-append _ _ in
    omega arith

pub append-requires-clause-child : goal.append-requires-clause-child
append-requires-clause-child g c =
    let page = ok_is c.add.result c.map_err.result c.in_ok-page.page _ c.map_err.ensures.cases c.in_ok-page.was c.in_ok-page.ensures.variant in
    let card = ok_is c.add-2.result c.map_err-2.result c.in_ok-card.card _ c.map_err-2.ensures.cases c.in_ok-card.was c.in_ok-card.ensures.variant in
    let badge = ok_is c.add-3.result c.map_err-3.result c.in_ok-badge.badge _ c.map_err-3.ensures.cases c.in_ok-badge.was c.in_ok-badge.ensures.variant in
    let none : length c.new-tree.result.nodes ≡ 0 = ap length c.new-tree.ensures.empty in
    let first : c.in_ok-page.page.0 ≡ length c.new-tree.result.nodes = if_ok _ _ _ page c.add.ensures.node in
    let one : length c.add.new.self.nodes ≡ length c.new-tree.result.nodes + 1 = ap (λ f. length f.nodes) (on_ok _ _ _ page c.add.ensures.added) ∙ length-append _ _ in
    let second : c.in_ok-card.card.0 ≡ length c.add.new.self.nodes = if_ok _ _ _ card c.add-2.ensures.node in
    let two : length c.add-2.new.self.nodes ≡ length c.add.new.self.nodes + 1 = ap (λ f. length f.nodes) (on_ok _ _ _ card c.add-2.ensures.added) ∙ length-append _ _ in
    let third : c.in_ok-badge.badge.0 ≡ length c.add-2.new.self.nodes = if_ok _ _ _ badge c.add-3.ensures.node in
    let three : length c.add-3.new.self.nodes ≡ length c.add-2.new.self.nodes + 1 = ap (λ f. length f.nodes) (on_ok _ _ _ badge c.add-3.ensures.added) ∙ length-append _ _ in
    omega arith

pub append-requires-2-clause-parent : goal.append-requires-2-clause-parent
append-requires-2-clause-parent g c =
    let page = ok_is c.add.result c.map_err.result c.in_ok-page.page _ c.map_err.ensures.cases c.in_ok-page.was c.in_ok-page.ensures.variant in
    let card = ok_is c.add-2.result c.map_err-2.result c.in_ok-card.card _ c.map_err-2.ensures.cases c.in_ok-card.was c.in_ok-card.ensures.variant in
    let badge = ok_is c.add-3.result c.map_err-3.result c.in_ok-badge.badge _ c.map_err-3.ensures.cases c.in_ok-badge.was c.in_ok-badge.ensures.variant in
    let none : length c.new-tree.result.nodes ≡ 0 = ap length c.new-tree.ensures.empty in
    let first : c.in_ok-page.page.0 ≡ length c.new-tree.result.nodes = if_ok _ _ _ page c.add.ensures.node in
    let one : length c.add.new.self.nodes ≡ length c.new-tree.result.nodes + 1 = ap (λ f. length f.nodes) (on_ok _ _ _ page c.add.ensures.added) ∙ length-append _ _ in
    let second : c.in_ok-card.card.0 ≡ length c.add.new.self.nodes = if_ok _ _ _ card c.add-2.ensures.node in
    let two : length c.add-2.new.self.nodes ≡ length c.add.new.self.nodes + 1 = ap (λ f. length f.nodes) (on_ok _ _ _ card c.add-2.ensures.added) ∙ length-append _ _ in
    let third : c.in_ok-badge.badge.0 ≡ length c.add-2.new.self.nodes = if_ok _ _ _ badge c.add-3.ensures.node in
    let three : length c.add-3.new.self.nodes ≡ length c.add-2.new.self.nodes + 1 = ap (λ f. length f.nodes) (on_ok _ _ _ badge c.add-3.ensures.added) ∙ length-append _ _ in
    let same : length c.append.new.self.nodes ≡ length c.add-3.new.self.nodes = c.append.ensures.count in
    omega arith

pub append-requires-2-clause-child : goal.append-requires-2-clause-child
append-requires-2-clause-child g c =
    let page = ok_is c.add.result c.map_err.result c.in_ok-page.page _ c.map_err.ensures.cases c.in_ok-page.was c.in_ok-page.ensures.variant in
    let card = ok_is c.add-2.result c.map_err-2.result c.in_ok-card.card _ c.map_err-2.ensures.cases c.in_ok-card.was c.in_ok-card.ensures.variant in
    let badge = ok_is c.add-3.result c.map_err-3.result c.in_ok-badge.badge _ c.map_err-3.ensures.cases c.in_ok-badge.was c.in_ok-badge.ensures.variant in
    let none : length c.new-tree.result.nodes ≡ 0 = ap length c.new-tree.ensures.empty in
    let first : c.in_ok-page.page.0 ≡ length c.new-tree.result.nodes = if_ok _ _ _ page c.add.ensures.node in
    let one : length c.add.new.self.nodes ≡ length c.new-tree.result.nodes + 1 = ap (λ f. length f.nodes) (on_ok _ _ _ page c.add.ensures.added) ∙ length-append _ _ in
    let second : c.in_ok-card.card.0 ≡ length c.add.new.self.nodes = if_ok _ _ _ card c.add-2.ensures.node in
    let two : length c.add-2.new.self.nodes ≡ length c.add.new.self.nodes + 1 = ap (λ f. length f.nodes) (on_ok _ _ _ card c.add-2.ensures.added) ∙ length-append _ _ in
    let third : c.in_ok-badge.badge.0 ≡ length c.add-2.new.self.nodes = if_ok _ _ _ badge c.add-3.ensures.node in
    let three : length c.add-3.new.self.nodes ≡ length c.add-2.new.self.nodes + 1 = ap (λ f. length f.nodes) (on_ok _ _ _ badge c.add-3.ensures.added) ∙ length-append _ _ in
    let same : length c.append.new.self.nodes ≡ length c.add-3.new.self.nodes = c.append.ensures.count in
    omega arith

pub holder_of-requires : goal.holder_of-requires
holder_of-requires g c =
    let page = ok_is c.add.result c.map_err.result c.in_ok-page.page _ c.map_err.ensures.cases c.in_ok-page.was c.in_ok-page.ensures.variant in
    let card = ok_is c.add-2.result c.map_err-2.result c.in_ok-card.card _ c.map_err-2.ensures.cases c.in_ok-card.was c.in_ok-card.ensures.variant in
    let badge = ok_is c.add-3.result c.map_err-3.result c.in_ok-badge.badge _ c.map_err-3.ensures.cases c.in_ok-badge.was c.in_ok-badge.ensures.variant in
    let none : length c.new-tree.result.nodes ≡ 0 = ap length c.new-tree.ensures.empty in
    let first : c.in_ok-page.page.0 ≡ length c.new-tree.result.nodes = if_ok _ _ _ page c.add.ensures.node in
    let one : length c.add.new.self.nodes ≡ length c.new-tree.result.nodes + 1 = ap (λ f. length f.nodes) (on_ok _ _ _ page c.add.ensures.added) ∙ length-append _ _ in
    let second : c.in_ok-card.card.0 ≡ length c.add.new.self.nodes = if_ok _ _ _ card c.add-2.ensures.node in
    let two : length c.add-2.new.self.nodes ≡ length c.add.new.self.nodes + 1 = ap (λ f. length f.nodes) (on_ok _ _ _ card c.add-2.ensures.added) ∙ length-append _ _ in
    let third : c.in_ok-badge.badge.0 ≡ length c.add-2.new.self.nodes = if_ok _ _ _ badge c.add-3.ensures.node in
    let three : length c.add-3.new.self.nodes ≡ length c.add-2.new.self.nodes + 1 = ap (λ f. length f.nodes) (on_ok _ _ _ badge c.add-3.ensures.added) ∙ length-append _ _ in
    let same : length c.append.new.self.nodes ≡ length c.add-3.new.self.nodes = c.append.ensures.count in
    let still : length c.append-2.new.self.nodes ≡ length c.append.new.self.nodes = c.append-2.ensures.count in
    omega arith

pub append-requires-3-clause-parent : goal.append-requires-3-clause-parent
append-requires-3-clause-parent g c =
    let page = ok_is c.add.result c.map_err.result c.in_ok-page.page _ c.map_err.ensures.cases c.in_ok-page.was c.in_ok-page.ensures.variant in
    let card = ok_is c.add-2.result c.map_err-2.result c.in_ok-card.card _ c.map_err-2.ensures.cases c.in_ok-card.was c.in_ok-card.ensures.variant in
    let badge = ok_is c.add-3.result c.map_err-3.result c.in_ok-badge.badge _ c.map_err-3.ensures.cases c.in_ok-badge.was c.in_ok-badge.ensures.variant in
    let none : length c.new-tree.result.nodes ≡ 0 = ap length c.new-tree.ensures.empty in
    let first : c.in_ok-page.page.0 ≡ length c.new-tree.result.nodes = if_ok _ _ _ page c.add.ensures.node in
    let one : length c.add.new.self.nodes ≡ length c.new-tree.result.nodes + 1 = ap (λ f. length f.nodes) (on_ok _ _ _ page c.add.ensures.added) ∙ length-append _ _ in
    let second : c.in_ok-card.card.0 ≡ length c.add.new.self.nodes = if_ok _ _ _ card c.add-2.ensures.node in
    let two : length c.add-2.new.self.nodes ≡ length c.add.new.self.nodes + 1 = ap (λ f. length f.nodes) (on_ok _ _ _ card c.add-2.ensures.added) ∙ length-append _ _ in
    let third : c.in_ok-badge.badge.0 ≡ length c.add-2.new.self.nodes = if_ok _ _ _ badge c.add-3.ensures.node in
    let three : length c.add-3.new.self.nodes ≡ length c.add-2.new.self.nodes + 1 = ap (λ f. length f.nodes) (on_ok _ _ _ badge c.add-3.ensures.added) ∙ length-append _ _ in
    let same : length c.append.new.self.nodes ≡ length c.add-3.new.self.nodes = c.append.ensures.count in
    let still : length c.append-2.new.self.nodes ≡ length c.append.new.self.nodes = c.append-2.ensures.count in
    omega arith

pub append-requires-3-clause-child : goal.append-requires-3-clause-child
append-requires-3-clause-child g c =
    let page = ok_is c.add.result c.map_err.result c.in_ok-page.page _ c.map_err.ensures.cases c.in_ok-page.was c.in_ok-page.ensures.variant in
    let card = ok_is c.add-2.result c.map_err-2.result c.in_ok-card.card _ c.map_err-2.ensures.cases c.in_ok-card.was c.in_ok-card.ensures.variant in
    let badge = ok_is c.add-3.result c.map_err-3.result c.in_ok-badge.badge _ c.map_err-3.ensures.cases c.in_ok-badge.was c.in_ok-badge.ensures.variant in
    let none : length c.new-tree.result.nodes ≡ 0 = ap length c.new-tree.ensures.empty in
    let first : c.in_ok-page.page.0 ≡ length c.new-tree.result.nodes = if_ok _ _ _ page c.add.ensures.node in
    let one : length c.add.new.self.nodes ≡ length c.new-tree.result.nodes + 1 = ap (λ f. length f.nodes) (on_ok _ _ _ page c.add.ensures.added) ∙ length-append _ _ in
    let second : c.in_ok-card.card.0 ≡ length c.add.new.self.nodes = if_ok _ _ _ card c.add-2.ensures.node in
    let two : length c.add-2.new.self.nodes ≡ length c.add.new.self.nodes + 1 = ap (λ f. length f.nodes) (on_ok _ _ _ card c.add-2.ensures.added) ∙ length-append _ _ in
    let third : c.in_ok-badge.badge.0 ≡ length c.add-2.new.self.nodes = if_ok _ _ _ badge c.add-3.ensures.node in
    let three : length c.add-3.new.self.nodes ≡ length c.add-2.new.self.nodes + 1 = ap (λ f. length f.nodes) (on_ok _ _ _ badge c.add-3.ensures.added) ∙ length-append _ _ in
    let same : length c.append.new.self.nodes ≡ length c.add-3.new.self.nodes = c.append.ensures.count in
    let still : length c.append-2.new.self.nodes ≡ length c.append.new.self.nodes = c.append-2.ensures.count in
    omega arith

pub holder_of-requires-2 : goal.holder_of-requires-2
holder_of-requires-2 g c =
    let page = ok_is c.add.result c.map_err.result c.in_ok-page.page _ c.map_err.ensures.cases c.in_ok-page.was c.in_ok-page.ensures.variant in
    let card = ok_is c.add-2.result c.map_err-2.result c.in_ok-card.card _ c.map_err-2.ensures.cases c.in_ok-card.was c.in_ok-card.ensures.variant in
    let badge = ok_is c.add-3.result c.map_err-3.result c.in_ok-badge.badge _ c.map_err-3.ensures.cases c.in_ok-badge.was c.in_ok-badge.ensures.variant in
    let none : length c.new-tree.result.nodes ≡ 0 = ap length c.new-tree.ensures.empty in
    let first : c.in_ok-page.page.0 ≡ length c.new-tree.result.nodes = if_ok _ _ _ page c.add.ensures.node in
    let one : length c.add.new.self.nodes ≡ length c.new-tree.result.nodes + 1 = ap (λ f. length f.nodes) (on_ok _ _ _ page c.add.ensures.added) ∙ length-append _ _ in
    let second : c.in_ok-card.card.0 ≡ length c.add.new.self.nodes = if_ok _ _ _ card c.add-2.ensures.node in
    let two : length c.add-2.new.self.nodes ≡ length c.add.new.self.nodes + 1 = ap (λ f. length f.nodes) (on_ok _ _ _ card c.add-2.ensures.added) ∙ length-append _ _ in
    let third : c.in_ok-badge.badge.0 ≡ length c.add-2.new.self.nodes = if_ok _ _ _ badge c.add-3.ensures.node in
    let three : length c.add-3.new.self.nodes ≡ length c.add-2.new.self.nodes + 1 = ap (λ f. length f.nodes) (on_ok _ _ _ badge c.add-3.ensures.added) ∙ length-append _ _ in
    let same : length c.append.new.self.nodes ≡ length c.add-3.new.self.nodes = c.append.ensures.count in
    let still : length c.append-2.new.self.nodes ≡ length c.append.new.self.nodes = c.append-2.ensures.count in
    let again : length c.append-3.new.self.nodes ≡ length c.append-2.new.self.nodes = c.append-3.ensures.count in
    omega arith
