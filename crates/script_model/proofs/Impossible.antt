-- What can't come.
use Rattle.std.proofs.Common.{◌≡◌, ◌∙◌, refl, ap, ℕ, Bool, true, false, List}
use Rattle.std.specs.Prelude.{Option, Some, None, Result, Ok, Err, option_and_then}
use Rattle.text_io.specs.declared.kinds.Version.{Version}
use Rattle.script_model.specs.Readers.{◌>>=◌, or_fault}
use Rattle.script_model.specs.Keywords.{lookup}
use Rattle.script_model.specs.Lexing.{Row}
use Rattle.script_model.specs.Forms.{WholeForm, made, next_of, word_as, none_left, part_as}
use Rattle.script_model.specs.Commands.{Head, ActionHead, TickHead, EachHead, WhenHead, HandlerHead, EndHead, heads_in}
use Rattle.script_model.specs.Statements.{Ends, permitted, head_of, fresh_name_of, condition_as, handler_as, operands_of, statement_of}

pub bind_ok : {A B E : Type 0} (r : Result A E) (f : A → Result B E) (y : B) → (r >>= f) ≡ Ok y → (x : A) × (r ≡ Ok x) × (f x ≡ Ok y)
bind_ok (Ok x) f y h = (x, refl, h)
bind_ok (Err e) f y h = absurd cc

not_end : (outside : Bool) (found : Option Head) → outside ≡ true → option_and_then (permitted outside) found ≡ Some EndHead → ⊥
unfolding permitted
not_end false found e h = cc
not_end true None e h = cc
not_end true (Some EndHead) e h = cc
not_end true (Some (ActionHead forms makes)) e h = cc
not_end true (Some TickHead) e h = cc
not_end true (Some EachHead) e h = cc
not_end true (Some WhenHead) e h = cc
not_end true (Some HandlerHead) e h = cc

or_ok : {A : Type 0} (column : ℕ) (found : Option A) (value : A) → or_fault column found ≡ Ok value → found ≡ Some value
or_ok column None value h = absurd cc
or_ok column (Some x) value h = cc

ok_is : (x y : Head × Row) → ◌≡◌ {A = Result (Head × Row) ℕ} (Ok x) (Ok y) → x ≡ y
ok_is x y e = cc

head_taken : (version : Version) (outside : Bool) (row : Row) (taken : Head × Row) → word_as (head_of version outside) row ≡ Ok taken → (text : List ℕ) × (head_of version outside text ≡ Some taken.0)
unfolding word_as
head_taken version outside row taken h =
    let next = bind_ok (next_of row) _ taken h in
    let value = bind_ok (or_fault next.0.0.column (head_of version outside next.0.0.text)) _ taken next.2 in
    (next.0.0.text, or_ok next.0.0.column (head_of version outside next.0.0.text) value.0 value.1 ∙ ap (λ (pair : Head × Row). Some pair.0) (ok_is (value.0, next.0.1) taken value.2))

operands_end : (names : List (List ℕ)) (head : Head) (row : Row) → operands_of names head row ≡ Ok Ends → head ≡ EndHead
unfolding operands_of made handler_as
operands_end names (ActionHead forms makes) row h = let action = bind_ok (made forms makes row) _ Ends h in absurd (cc action.2)
operands_end names TickHead row h =
    let time = bind_ok (part_as WholeForm row) _ Ends h in
    let end = bind_ok (none_left time.0.1) _ Ends time.2 in
    absurd (cc end.2)
operands_end names EachHead row h = let end = bind_ok (none_left row) _ Ends h in absurd (cc end.2)
operands_end names WhenHead row h = let condition = bind_ok (condition_as row) _ Ends h in absurd (cc condition.2)
operands_end names HandlerHead row h =
    let name = bind_ok (word_as (fresh_name_of names) row) _ Ends h in
    let end = bind_ok (none_left name.0.1) _ Ends name.2 in
    absurd (cc end.2)
operands_end names EndHead row h = refl

pub no_end_outside : (version : Version) (names : List (List ℕ)) (row : Row) → statement_of (record { version = version; outside = true; names = names }) row ≡ Ok Ends → ⊥
unfolding statement_of head_of
no_end_outside version names row h =
    let head = bind_ok (word_as (head_of version true) row) _ Ends h in
    let taken = head_taken version true row head.0 head.1 in
    let is_end = operands_end names head.0.0 head.0.1 head.2 in
    not_end true (lookup (heads_in version) taken.0) refl (taken.1 ∙ ap (λ (x : Head). Some x) is_end)
