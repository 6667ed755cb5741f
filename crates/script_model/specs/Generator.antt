-- The scripts that the generator produces: a page of lazily loaded images in cards, scrolled four times. They are this project's own
-- choice.
use Rattle.std.specs.Prelude.{ℕ, zero, suc, ◌+◌, ◌*◌, ◌/◌, ◌%◌, List, [], ◌∷◌, ◌++◌, flat_map, codes}
use Rattle.word_model.specs.Numbers.{decimal}

-- how many cards the script with a number has
abbrev pub card_count : ℕ → ℕ
card_count number = 1 + number % 2000

-- the root margin of its observer, in pixels
abbrev pub root_margin : ℕ → ℕ
root_margin number = 200 + 100 * ((number / 2000) % 5)

-- a number in decimal between two texts
unfoldable pub around : List ℕ → ℕ → List ℕ → List ℕ
unfolding decimal
around front number back = front ++ decimal number ++ back

unfoldable pub head_lines : ℕ → List (List ℕ)
unfolding around
head_lines margin =
    codes "script 1"
    ∷ codes "handler show"
    ∷ codes "each"
    ∷ codes "when seen"
    ∷ codes "load $target 80px 60px"
    ∷ codes "io-unobserve lazy $target"
    ∷ codes "end"
    ∷ codes "end"
    ∷ codes "end"
    ∷ codes "block r top"
    ∷ codes "append top r"
    ∷ codes "ro fit top -"
    ∷ codes "ro-observe fit r content"
    ∷ around (codes "io lazy top show root - margin ") margin (codes "px threshold 0")
    ∷ []

-- a card `c` with its image `g` and its title `t`
unfoldable pub card_lines : ℕ → List (List ℕ)
unfolding around
card_lines card =
    around (codes "block c") card (codes " top")
    ∷ around (codes "set c") card (codes " height 100px")
    ∷ around (codes "append r c") card []
    ∷ around (codes "image g") card (codes " top 0px 0px")
    ∷ around (codes "append c") card (around (codes " g") card [])
    ∷ around (codes "block t") card (codes " top")
    ∷ around (codes "set t") card (codes " height 20px")
    ∷ around (codes "append c") card (around (codes " t") card [])
    ∷ around (codes "io-observe lazy g") card []
    ∷ []

-- the lines of a number of cards, starting with this one
unfoldable pub cards_from : ℕ → ℕ → List (List ℕ)
unfolding card_lines
cards_from card zero = []
cards_from card (suc count) = card_lines card ++ cards_from (card + 1) count

abbrev pub tail_lines : List (List ℕ)
tail_lines =
    codes "tick 0"
    ∷ codes "scroll top 0px 1000px"
    ∷ codes "tick 16"
    ∷ codes "scroll top 0px 5000px"
    ∷ codes "tick 32"
    ∷ codes "scroll top 0px 20000px"
    ∷ codes "tick 48"
    ∷ codes "scroll top 0px 60000px"
    ∷ codes "tick 64"
    ∷ []

-- the lines of the script with a number
unfoldable pub generated_lines : ℕ → List (List ℕ)
unfolding head_lines cards_from
generated_lines number = head_lines (root_margin number) ++ cards_from 0 (card_count number) ++ tail_lines

-- its text: each line with a line feed
unfoldable pub generated : ℕ → List ℕ
unfolding generated_lines
generated number = flat_map (λ line. line ++ (10 ∷ [])) (generated_lines number)
