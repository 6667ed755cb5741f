-- Fields joined to a line's text.
use Rattle.std.proofs.Common.{◌≡◌, ℕ, ℤ, List, [], ◌∷◌, ◌++◌, refl, ap, sym, ◌∙◌, append_assoc}
use Rattle.std.specs.Prelude.{◌-ℤ◌, unsigned_abs, Option, Some, codes}
use Rattle.word_model.specs.Numbers.{decimal}
use Rattle.std.specs.List.{join_with_byte}
use Rattle.px_units.specs.declared.Rect.{Rect}
use Rattle.px_units.specs.declared.Point.{Point}
use Rattle.px_units.specs.declared.Size.{Size}
use Rattle.px_units.specs.Texts.{sign_text, pixel_text}
use Rattle.script_model.specs.TraceLines.{TraceLine, ResizeLine, ReadLine, IntersectLine, Intersection}
use Rattle.script_model.specs.TraceText.{meets_text, ratio_text, rect_fields, size_fields, whole_text, device_fields, point_fields, kind_text, fields_of, line_text}
use Rattle.trace_text.specs.Fields.{before, with_fields}

-- fields behind other fields
pub fields_again : (text : List ℕ) (xs ys : List (List ℕ)) → with_fields (with_fields text xs) ys ≡ with_fields text (xs ++ ys)
fields_again text [] ys = refl
fields_again text (x ∷ xs) ys = fields_again (text ++ (32 ∷ x)) xs ys

pub with_before : (text : List ℕ) (fields : List (List ℕ)) (rest : List ℕ) → with_fields text fields ++ rest ≡ text ++ before fields rest
with_before text [] rest = refl
with_before text (field ∷ fields) rest = with_before (text ++ (32 ∷ field)) fields rest ∙ append_assoc text (32 ∷ field) (before fields rest)

pub before_again : (xs ys : List (List ℕ)) (rest : List ℕ) → before (xs ++ ys) rest ≡ before xs (before ys rest)
before_again [] ys rest = refl
before_again (x ∷ xs) ys rest = ap (λ r. 32 ∷ (x ++ r)) (before_again xs ys rest)

-- joined fields by the first one and those behind it
pub joined_before : (first : List ℕ) (fields : List (List ℕ)) (rest : List ℕ) → join_with_byte 32 (first ∷ fields) ++ rest ≡ first ++ before fields rest
joined_before first [] rest = refl
joined_before first (field ∷ fields) rest =
    append_assoc first (32 ∷ join_with_byte 32 (field ∷ fields)) rest ∙ ap (λ r. first ++ (32 ∷ r)) (joined_before field fields rest)

pub line_text_before : (line : TraceLine) → line_text line ≡ kind_text line ++ before (fields_of line) (10 ∷ [])
unfolding line_text
line_text_before line = joined_before (kind_text line) (fields_of line) (10 ∷ [])

pub line_text_is : (line : TraceLine) → with_fields (kind_text line) (fields_of line) ++ (10 ∷ []) ≡ line_text line
line_text_is line = with_before (kind_text line) (fields_of line) (10 ∷ []) ∙ sym (line_text_before line)

-- ---- fields pushed one after the other

pub then_fields : (old mid new : List ℕ) (xs ys : List (List ℕ)) → mid ≡ with_fields old xs → new ≡ with_fields mid ys → new ≡ with_fields old (xs ++ ys)
then_fields old mid new xs ys first second = second ∙ ap (λ text. with_fields text ys) first ∙ fields_again old xs ys

pub length_pushed : (old new : List ℕ) (pushed units : ℤ) → pushed ≡ units → new ≡ with_fields old (pixel_text pushed ∷ []) → new ≡ with_fields old (pixel_text units ∷ [])
length_pushed old new pushed units same e = e ∙ ap (λ z. with_fields old (pixel_text z ∷ [])) same

pub size_pushed : (old a new : List ℕ) (size : Size) → a ≡ with_fields old (pixel_text size.width ∷ []) → new ≡ with_fields a (pixel_text size.height ∷ [])
    → new ≡ with_fields old (size_fields size)
unfolding size_fields
size_pushed old a new size first second = then_fields old a new (pixel_text size.width ∷ []) (pixel_text size.height ∷ []) first second

pub point_pushed : (old a new : List ℕ) (point : Point) → a ≡ with_fields old (pixel_text point.left ∷ []) → new ≡ with_fields a (pixel_text point.top ∷ [])
    → new ≡ with_fields old (point_fields point)
unfolding point_fields
point_pushed old a new point first second = then_fields old a new (pixel_text point.left ∷ []) (pixel_text point.top ∷ []) first second

pub rect_pushed : (old a b c new : List ℕ) (r : Rect) → a ≡ with_fields old (pixel_text r.left ∷ []) → b ≡ with_fields a (pixel_text r.top ∷ [])
    → c ≡ with_fields b (pixel_text (r.right -ℤ r.left) ∷ []) → new ≡ with_fields c (pixel_text (r.bottom -ℤ r.top) ∷ [])
    → new ≡ with_fields old (rect_fields r)
unfolding rect_fields
rect_pushed old a b c new r first second third fourth =
    let left : List ℕ = pixel_text r.left in
    let top : List ℕ = pixel_text r.top in
    let width : List ℕ = pixel_text (r.right -ℤ r.left) in
    then_fields old c new (left ∷ top ∷ width ∷ []) (pixel_text (r.bottom -ℤ r.top) ∷ [])
    (then_fields old b c (left ∷ top ∷ []) (width ∷ []) (then_fields old a b (left ∷ []) (top ∷ []) first second) third) fourth

pub whole_pushed : (old a b new : List ℕ) (number : ℤ) → a ≡ old ++ (32 ∷ []) → b ≡ a ++ sign_text number → new ≡ b ++ decimal (unsigned_abs number)
    → new ≡ with_fields old (whole_text number ∷ [])
unfolding whole_text
whole_pushed old a b new number first second third =
    let digits : List ℕ = decimal (unsigned_abs number) in
    third ∙ ap (λ l. l ++ digits) second ∙ ap (λ l. l ++ sign_text number ++ digits) first ∙ append_assoc (old ++ (32 ∷ [])) (sign_text number) digits
    ∙ append_assoc old (32 ∷ []) (sign_text number ++ digits)

pub whole_same : (old new : List ℕ) (pushed number : ℤ) → pushed ≡ number → new ≡ with_fields old (whole_text pushed ∷ []) → new ≡ with_fields old (whole_text number ∷ [])
whole_same old new pushed number same e = e ∙ ap (λ z. with_fields old (whole_text z ∷ [])) same

pub pixels_pushed : (old a b new : List ℕ) (size : Size) → a ≡ with_fields old (codes "device" ∷ []) → b ≡ with_fields a (whole_text size.width ∷ [])
    → new ≡ with_fields b (whole_text size.height ∷ []) → new ≡ with_fields old (device_fields (Some size))
unfolding device_fields
pixels_pushed old a b new size first second third =
    let width : List ℕ = whole_text size.width in
    then_fields old b new (codes "device" ∷ width ∷ []) (whole_text size.height ∷ []) (then_fields old a b (codes "device" ∷ []) (width ∷ []) first second) third

pub boxes_pushed : (old a b c new : List ℕ) (r : Rect) (border : Size) (device : Option Size) → a ≡ with_fields old (codes "rect" ∷ rect_fields r)
    → b ≡ with_fields a (codes "border" ∷ []) → c ≡ with_fields b (size_fields border) → new ≡ with_fields c (device_fields device)
    → new ≡ with_fields old ((codes "rect" ∷ rect_fields r) ++ (codes "border" ∷ size_fields border) ++ device_fields device)
boxes_pushed old a b c new r border device first second third fourth =
    let head : List (List ℕ) = codes "rect" ∷ rect_fields r in
    let middle : List (List ℕ) = codes "border" ∷ size_fields border in
    then_fields old c new (head ++ middle) (device_fields device)
    (then_fields old a c head middle first (then_fields a b c (codes "border" ∷ []) (size_fields border) second third)) fourth

pub resize_pushed : (old a new : List ℕ) (observer target : List ℕ) (r : Rect) (border : Size) (device : Option Size) → a ≡ with_fields old (observer ∷ target ∷ [])
    → new ≡ with_fields a ((codes "rect" ∷ rect_fields r) ++ (codes "border" ∷ size_fields border) ++ device_fields device)
    → new ≡ with_fields old (fields_of (ResizeLine observer target r border device))
unfolding fields_of
resize_pushed old a new observer target r border device first second =
    then_fields old a new (observer ∷ target ∷ []) ((codes "rect" ∷ rect_fields r) ++ (codes "border" ∷ size_fields border) ++ device_fields device) first second

pub read_pushed : (old a b new : List ℕ) (target : List ℕ) (r : Rect) (scroll : Point) → a ≡ with_fields old (target ∷ [])
    → b ≡ with_fields a (rect_fields r) → new ≡ with_fields b (point_fields scroll) → new ≡ with_fields old (fields_of (ReadLine target r scroll))
unfolding fields_of
read_pushed old a b new target r scroll first second third =
    then_fields old b new (target ∷ rect_fields r) (point_fields scroll) (then_fields old a b (target ∷ []) (rect_fields r) first second) third

pub rects_pushed : (old a b new : List ℕ) (xs ys zs : List (List ℕ)) → a ≡ with_fields old xs → b ≡ with_fields a ys → new ≡ with_fields b zs
    → new ≡ with_fields old (xs ++ ys ++ zs)
rects_pushed old a b new xs ys zs first second third = then_fields old b new (xs ++ ys) zs (then_fields old a b xs ys first second) third

pub intersection_pushed : (old mid new : List ℕ) (found : Intersection)
    → mid ≡ with_fields old (found.observer ∷ found.target ∷ decimal found.time ∷ meets_text found.meets ∷ ratio_text found.part found.whole ∷ [])
    → new ≡ with_fields mid ((codes "root" ∷ rect_fields found.root) ++ (codes "box" ∷ rect_fields found.bounds) ++ (codes "cut" ∷ rect_fields found.cut))
    → new ≡ with_fields old (fields_of (IntersectLine found))
unfolding fields_of
intersection_pushed old mid new found first second =
    then_fields old mid new (found.observer ∷ found.target ∷ decimal found.time ∷ meets_text found.meets ∷ ratio_text found.part found.whole ∷ [])
    ((codes "root" ∷ rect_fields found.root) ++ (codes "box" ∷ rect_fields found.bounds) ++ (codes "cut" ∷ rect_fields found.cut)) first second
