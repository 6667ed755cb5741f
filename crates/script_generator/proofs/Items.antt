-- The items of a generated script.
use Rattle.std.proofs.Common.{ℕ, zero, suc, ◌+◌, false, List, [], ◌∷◌, ◌++◌, Some, None}
use Rattle.std.specs.Prelude.{codes, pos}
use Rattle.word_model.specs.Numbers.{decimal}
use Rattle.px_units.specs.Lengths.{Pixels}
use Rattle.px_units.specs.declared.BoxKind.TheVariants.{Content}
use Rattle.text_io.specs.declared.kinds.Version.TheVariants.{First}
use Rattle.layout_model.specs.Styles.{SetHeight}
use Rattle.script_model.specs.Generator.{card_count, root_margin}
use Rattle.script_model.specs.Syntax.{Named, Target, MakeBlock, MakeImage, Append, SetStyle, Load, MakeResizeObserver, ObserveResize, MakeIntersectionObserver, ObserveIntersection, UnobserveIntersection, ScrollTo, Seen, Simple, Each, When, Block, NoMore, Then, Item, Handler, Script}
use Rattle.script_generator.proofs.Consecutive.{Words}
use Rattle.script_generator.proofs.Plain.{Plain, Does, Ticks, plain_items}

abbrev pub shown : Block
shown =
    Then
    (Each
    3
    (Then
    (When
    4
    (record { negated = false; asks = Seen })
    (Then (Simple 5 (Load Target 5120 3840)) (Then (Simple 6 (UnobserveIntersection (codes "lazy") Target)) NoMore))
    7)
    NoMore)
    8)
    NoMore

abbrev pub handler : Item
handler = Handler 2 (codes "show") shown 9

abbrev pub handler_words : List Words
handler_words =
    (codes "handler" ∷ codes "show" ∷ [])
    ∷ (codes "each" ∷ [])
    ∷ (codes "when" ∷ codes "seen" ∷ [])
    ∷ (codes "load" ∷ codes "$target" ∷ codes "80px" ∷ codes "60px" ∷ [])
    ∷ (codes "io-unobserve" ∷ codes "lazy" ∷ codes "$target" ∷ [])
    ∷ (codes "end" ∷ [])
    ∷ (codes "end" ∷ [])
    ∷ (codes "end" ∷ [])
    ∷ []

abbrev pub head_plain : ℕ → List Plain
head_plain margin =
    Does (MakeBlock (codes "r") (codes "top"))
    ∷ Does (Append (Named (codes "top")) (Named (codes "r")))
    ∷ Does (MakeResizeObserver (codes "fit") (codes "top") None)
    ∷ Does (ObserveResize (codes "fit") (Named (codes "r")) Content)
    ∷ Does
    (MakeIntersectionObserver
    (record {
      name = codes "lazy";
      document = codes "top";
      handler = Some (codes "show");
      root = None;
      margin = decimal margin ++ codes "px";
      scroll = None;
      thresholds = pos 0 ∷ [];
    }))
    ∷ []

abbrev pub card_name : ℕ → List ℕ
card_name card = 99 ∷ decimal card

abbrev pub image_name : ℕ → List ℕ
image_name card = 103 ∷ decimal card

abbrev pub title_name : ℕ → List ℕ
title_name card = 116 ∷ decimal card

abbrev pub card_plain : ℕ → List Plain
card_plain card =
    Does (MakeBlock (card_name card) (codes "top"))
    ∷ Does (SetStyle (Named (card_name card)) (SetHeight (Pixels 6400)))
    ∷ Does (Append (Named (codes "r")) (Named (card_name card)))
    ∷ Does (MakeImage (image_name card) (codes "top") 0 0)
    ∷ Does (Append (Named (card_name card)) (Named (image_name card)))
    ∷ Does (MakeBlock (title_name card) (codes "top"))
    ∷ Does (SetStyle (Named (title_name card)) (SetHeight (Pixels 1280)))
    ∷ Does (Append (Named (card_name card)) (Named (title_name card)))
    ∷ Does (ObserveIntersection (codes "lazy") (Named (image_name card)))
    ∷ []

unfoldable pub cards_plain : ℕ → ℕ → List Plain
cards_plain card zero = []
cards_plain card (suc count) = card_plain card ++ cards_plain (card + 1) count

abbrev pub tail_plain : List Plain
tail_plain =
    Ticks 0
    ∷ Does (ScrollTo (Named (codes "top")) (pos 0) (pos 64000))
    ∷ Ticks 16
    ∷ Does (ScrollTo (Named (codes "top")) (pos 0) (pos 320000))
    ∷ Ticks 32
    ∷ Does (ScrollTo (Named (codes "top")) (pos 0) (pos 1280000))
    ∷ Ticks 48
    ∷ Does (ScrollTo (Named (codes "top")) (pos 0) (pos 3840000))
    ∷ Ticks 64
    ∷ []

-- what stands behind the handler
unfoldable pub generated_plain : ℕ → List Plain
generated_plain number = head_plain (root_margin number) ++ cards_plain 0 (card_count number) ++ tail_plain

unfoldable pub generated_items : ℕ → List Item
generated_items number = handler ∷ plain_items 9 (generated_plain number)

abbrev pub generated_script : ℕ → Script
generated_script number = record { version = First; items = generated_items number }
