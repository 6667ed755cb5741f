-- Fields joined to the text of a box.
use Rattle.std.proofs.Common.{◌≡◌, ◌∙◌, ℕ, List, [], ◌∷◌, ◌++◌, sym}
use Rattle.std.specs.Prelude.{codes}
use Rattle.word_model.specs.Numbers.{decimal}
use Rattle.script_model.specs.TraceText.{rect_fields}
use Rattle.trace_text.specs.Fields.{with_fields}
use Rattle.trace_text.proofs.Joined.{with_before, then_fields, joined_before}
use Rattle.box_inspector.specs.declared.lines.BoxLine.{BoxLine}
use Rattle.box_inspector.specs.BoxText.{box_fields, box_text, seen_fields}

pub box_text_is : (line : BoxLine) → with_fields (codes "box") (box_fields line) ++ (10 ∷ []) ≡ box_text line
unfolding box_text
box_text_is line = with_before (codes "box") (box_fields line) (10 ∷ []) ∙ sym (joined_before (codes "box") (box_fields line) (10 ∷ []))

pub fields_pushed : (old a b c new : List ℕ) (line : BoxLine) → a ≡ with_fields old (line.name ∷ []) → b ≡ with_fields a (decimal line.depth ∷ [])
    → c ≡ with_fields b (rect_fields line.place) → new ≡ with_fields c (seen_fields line.seen) → new ≡ with_fields old (box_fields line)
fields_pushed old a b c new line first second third fourth =
    then_fields old c new (line.name ∷ decimal line.depth ∷ rect_fields line.place) (seen_fields line.seen)
    (then_fields old b c (line.name ∷ decimal line.depth ∷ []) (rect_fields line.place) (then_fields old a b (line.name ∷ []) (decimal line.depth ∷ []) first second) third)
    fourth
