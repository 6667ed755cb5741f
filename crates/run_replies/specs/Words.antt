-- The words of the command line, and what they ask for. All of this is this project's own choice.
use Rattle.std.specs.Prelude.{ℕ, Bool, true, false, cond, ◌==◌, List, [], ◌∷◌, Option, Some, None, option_map, option_and_then, bytes_eq, codes}
use Rattle.word_model.specs.Numbers.{at_most, signed_of, whole_of}
use Rattle.px_units.specs.declared.Point.{Point}
use Rattle.run_replies.specs.declared.words.Job.{Job}
use Rattle.run_replies.specs.declared.words.Job.TheVariants.{Replay, Check, Lint, Summary, Print, AtTick}
use Rattle.run_replies.specs.declared.words.Sight.{Sight}
use Rattle.run_replies.specs.declared.words.Sight.TheVariants.{Boxes, Hits}
use Rattle.run_replies.specs.declared.words.Words.{Words}
use Rattle.run_replies.specs.declared.words.Words.TheVariants.{Script, Generated, Judge, Pages}

-- the number of a generated script: `0`, or digits without a leading zero, at most 1,000,000
unfoldable pub number_of : List ℕ → Option ℕ
unfolding whole_of at_most
number_of word = option_and_then (at_most 1000000) (whole_of word)

-- the number of a tick: digits without a leading zero, from 1 to 1,000,000
unfoldable pub tick_of : List ℕ → Option ℕ
unfolding number_of
tick_of word = option_and_then (λ number. cond (number == 0) None (Some number)) (number_of word)

-- a point of the top document's viewport, by its distances from the left and the top
unfoldable pub point_of : List ℕ → List ℕ → Option Point
unfolding signed_of
point_of left top = option_and_then (λ x. option_map (λ y. record { left = x; top = y }) (signed_of top)) (signed_of left)

-- what is shown of the page of the source's script at the end of a tick
unfoldable pub at_tick : Sight → List ℕ → Option Words
unfolding tick_of
at_tick sight word = option_map (λ number. Script (AtTick sight number)) (tick_of word)

-- what a list of words asks for
unfoldable pub asked : List (List ℕ) → Option Words
unfolding at_tick number_of point_of
asked [] = Some (Script Replay)
asked (word ∷ []) =
    cond (bytes_eq word (codes "--check")) (Some (Script Check))
    (cond (bytes_eq word (codes "--lint")) (Some (Script Lint))
    (cond (bytes_eq word (codes "--summary")) (Some (Script Summary))
    (cond (bytes_eq word (codes "--print")) (Some (Script Print))
    (cond (bytes_eq word (codes "--judge")) (Some Judge)
    (cond (bytes_eq word (codes "--pages")) (Some Pages) None)))))
asked (word ∷ number ∷ []) =
    cond (bytes_eq word (codes "--generate")) (option_map (Generated Print) (number_of number))
    (cond (bytes_eq word (codes "--generate-run")) (option_map (Generated Summary) (number_of number))
    (cond (bytes_eq word (codes "--inspect")) (at_tick Boxes number) None))
asked (word ∷ number ∷ left ∷ []) = None
asked (word ∷ number ∷ left ∷ top ∷ []) =
    cond (bytes_eq word (codes "--hit")) (option_and_then (λ at. at_tick (Hits at) number) (point_of left top)) None
asked (word ∷ number ∷ left ∷ top ∷ other ∷ others) = None

-- how many bytes of a source are looked at: one more than it may have, so that a longer one is noticed; none if a script is
-- generated
abbrev pub looked_at : Words → ℕ
looked_at (Script job) = 16777217
looked_at (Generated job number) = 0
looked_at Judge = 67108865
looked_at Pages = 16777217

-- the bytes of a source that are looked at, if it tells them; none if a script is generated
abbrev pub seen : Words → Option (List ℕ) → Option (List ℕ)
seen (Script job) left = left
seen (Generated job number) left = Some []
seen Judge left = left
seen Pages left = left

-- whether a script is run and its page returned, once the call is done
abbrev pub is_run : Job → Bool
is_run Replay = true
is_run Check = false
is_run Lint = false
is_run Summary = true
is_run Print = false
is_run (AtTick sight number) = false

abbrev pub has_page : Option Words → Bool
has_page None = false
has_page (Some (Script job)) = is_run job
has_page (Some (Generated job number)) = is_run job
has_page (Some Judge) = false
has_page (Some Pages) = false
