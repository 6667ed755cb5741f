-- The line with a number in a text; the first line has the number 1.
use Rattle.std.specs.Prelude.{ℕ, zero, suc, ◌-◌, ◌==◌, cond, List, [], ◌∷◌}

-- the bytes before the first line feed
unfoldable pub first_line : List ℕ → List ℕ
first_line [] = []
first_line (b ∷ bs) = cond (b == 10) [] (b ∷ first_line bs)

-- the text after a given number of line feeds
unfoldable pub behind_feeds : ℕ → List ℕ → List ℕ
behind_feeds zero text = text
behind_feeds (suc feeds) [] = []
behind_feeds (suc feeds) (b ∷ bs) = cond (b == 10) (behind_feeds feeds bs) (behind_feeds (suc feeds) bs)

-- the line without its line feed; a carriage return before that is one of its bytes
unfoldable pub line_numbered : ℕ → List ℕ → List ℕ
unfolding first_line behind_feeds
line_numbered number text = first_line (behind_feeds (number - 1) text)
