-- The lines of a stream that name a page: `page`, one space and a name, with nothing else before the line feed or the end. One carriage
-- return is allowed directly before the line feed. This form is this project's own choice.
use Rattle.std.specs.Prelude.{ℕ, ◌-◌, ◌&&◌, cond, nat_eq, List, [], ◌∷◌, length, take, drop, Option, Some, None, codes}
use Rattle.std.specs.List.{starts_with, ends_with}
use Rattle.word_model.specs.Names.{is_name}

-- a line without its line feed, and without a carriage return directly before that
abbrev pub content_of : List ℕ → List ℕ
content_of line =
    cond (ends_with nat_eq line (13 ∷ 10 ∷ [])) (take (length line - 2) line)
    (cond (ends_with nat_eq line (10 ∷ [])) (take (length line - 1) line) line)

-- the name after `page` and one space
abbrev pub name_in : List ℕ → Option (List ℕ)
name_in content =
    cond (starts_with nat_eq content (codes "page ") && is_name (drop 5 content)) (Some (drop 5 content)) None

-- the page that a line names, if it is a page line
unfoldable pub page_named : List ℕ → Option (List ℕ)
page_named line = name_in (content_of line)
