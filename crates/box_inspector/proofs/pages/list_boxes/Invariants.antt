use Rattle.std.proofs.Common.{◌≡◌, All, flat_map, map, take}
use Rattle.element_tree.specs.declared.document.DocumentId.{DocumentId}
use Rattle.page_model.specs.Shown.{shown_of}
use Rattle.box_inspector.specs.Boxes.{box_line, boxed_elements}
use Rattle.box_inspector.specs.Clips.{AreClips}
use Rattle.box_inspector.specs.Ranges.{BoxReaches}
use Rattle.box_inspector.proofs.pages.list_boxes.Given as goal

abbrev pub invariant-loop-document : goal.invariant-loop-document
invariant-loop-document l = record {
  listed : l.lines.items ≡ flat_map (λ (document : DocumentId). map (box_line l.page.world) (boxed_elements (shown_of l.page.world) document.0)) (take l.document-index l.document-items);
  reach : All BoxReaches l.lines.items;
  clips : AreClips l.shown l.clips.inside;
}
