use Rattle.std.proofs.Common.{[], ◌∷◌, ◌++◌, map}
use Rattle.std.specs.Prelude.{codes, option_map}
use Rattle.script_model.specs.MarginText.{parts_of}
use Rattle.script_syntax.specs.Seen.{operand_of}
use Rattle.script_text.specs.NumberText.{number_text}
use Rattle.script_text.specs.Parts.{scroll_words}
use Rattle.script_text.specs.WordText.{operand_text, dash_or}
use Rattle.script_print.specs.Actions.{Prints}
use Rattle.script_print.proofs.LineWords.{observer_pushed}
use Rattle.script_print.proofs.actions.io.Goals as goal

pub returns : goal.returns
unfolding Prints
returns c =
    observer_pushed (codes "io") (c.args.making.now.name ∷ c.args.making.now.document ∷ dash_or (λ name. name) c.args.making.now.handler ∷ [])
    (codes "root" ∷ dash_or operand_text (option_map operand_of c.args.making.now.root) ∷ []) (parts_of c.args.making.now.margin ++ scroll_words c.args.making.now.scroll)
    (map number_text c.args.making.now.thresholds) (codes "margin") (codes "threshold") _ _ _ _ _ _ _ c.in_ok-push_line.ensures c.in_ok-push_phrase.ensures
    c.in_ok-push_word.ensures c.in_ok-push_margins.ensures c.in_ok-push_word-2.ensures c.in_ok-push_thresholds.ensures
