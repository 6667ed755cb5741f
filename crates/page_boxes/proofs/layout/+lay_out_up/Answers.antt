use Rattle.std.proofs.Common.{◌≡◌, ◌-◌, true, option_map, ap, sym, subst, ◌∙◌, arith}
use Rattle.element_tree.specs.Links.{number}
use Rattle.page_model.specs.Lookups.{element_at}
use Rattle.page_model.specs.Documents.{first_of_list, is_active}
use Rattle.page_documents.specs.Paths.{way_down}
use Rattle.page_boxes.specs.LaidOut.{is_marked, ChangesOnlyIn}
use Rattle.page_boxes.proofs.Views.{no_way, way_less}
use Rattle.page_boxes.proofs.Around.{changes_on, changes_first}
use Rattle.page_boxes.proofs.layout.+lay_out_up.Goals as goal

pub returns-then-high-eq0-clause-marked : goal.returns-then-high-eq0-clause-marked
returns-then-high-eq0-clause-marked g t c active =
    absurd (no_way c.args.page.now.tree c.requires.framed c.args.high c.args.document.0 c.if-high-eq0.true (c.requires.leads active))

pub returns-then-has-clause-marked : goal.returns-then-has-clause-marked
returns-then-has-clause-marked g t c active = sym c.has.ensures ∙ c.if-has.true

pub lay_out_up-requires : goal.lay_out_up-requires
lay_out_up-requires g t c κs within =
    let tree = c.args.page.now.tree in
    let active = sym c.is_active.ensures.value ∙ c.if-not-is_active.false in
    let is = sym c.frame_of.ensures.value ∙ ap (option_map number) c.in-Some.is in
    let less = way_less tree c.requires.framed c.args.document.0 (c.in-Some.frame.0) is c.args.high (c.args.high - 1) (omega arith) (c.requires.leads active) in (
      omega arith,
      (
        within,
        (
          c.requires.kept,
          (
            c.requires.framed,
            (
              λ held. ap (λ holder. first_of_list (way_down (c.args.high - 1) tree holder)) c.document_of-holder.ensures ∙ less,
              c.requires.so_far,
            ),
          ),
        ),
      ),
    )

pub lay_out_once-requires-clause-above : goal.lay_out_once-requires-clause-above
lay_out_once-requires-clause-above g t c frame is =
    let tree = c.args.page.now.tree in
    let there = sym c.frame_of.ensures.value ∙ ap (option_map number) c.in-Some.is in
    let same : c.in-Some.frame.0 ≡ frame = cc (sym there ∙ is) in
    subst (λ d. is_active tree d ≡ true → is_marked c.lay_out_up.new.laid_out.marks d ≡ true)
    (c.document_of-holder.ensures ∙ ap (λ n. (element_at tree n).document) same) c.lay_out_up.ensures.marked

pub returns-in-Some-clause-left : goal.returns-in-Some-clause-left
returns-in-Some-clause-left g t c =
    let tree = c.args.page.now.tree in
    let there = sym c.frame_of.ensures.value ∙ ap (option_map number) c.in-Some.is in
    changes_on tree c.args.document.0 c.args.high (c.args.high - 1) (omega arith) c.requires.framed (c.in-Some.frame.0) there
    c.args.boxes.now c.lay_out_up.new.boxes c.lay_out_once.new.boxes
    (subst (λ holder. ChangesOnlyIn tree (way_down (c.args.high - 1) tree holder) c.args.boxes.now c.lay_out_up.new.boxes) c.document_of-holder.ensures
    c.lay_out_up.ensures.left)
    c.lay_out_once.ensures.left

pub returns-in-Some-clause-unboxed : goal.returns-in-Some-clause-unboxed
returns-in-Some-clause-unboxed g t c n none = c.lay_out_once.ensures.unboxed n none ∙ c.lay_out_up.ensures.unboxed n none

pub returns-in-None-clause-left : goal.returns-in-None-clause-left
returns-in-None-clause-left g t c =
    changes_first c.args.page.now.tree c.args.document.0 c.args.high (c.args.high - 1) (omega arith)
    (sym c.frame_of.ensures.value ∙ ap (option_map number) c.in-None.is)
    c.args.boxes.now c.lay_out_once-in-None.new.boxes c.lay_out_once-in-None.ensures.left
