-- Plain scalars: words, numbers and texts.
use Rattle.std.specs.Prelude.{ℕ, ◌==◌, ◌&&◌, ◌||◌, ◌*◌, ◌+◌, ◌-◌, nat_le, not, if◌then◌else◌, Bool, true, false, ℤ, pos, ◌-ℤ◌, List, [], ◌∷◌, Option, Some, None, option_map, drop, codes}
use Rattle.std.specs.List.{fold, list_all}
use Rattle.std.specs.Str.{is_utf8, bytes_eq}
use Rattle.stan_model_neon.specs.declared.node.Node.{Node}
use Rattle.stan_model_neon.specs.Characters.{is_blank, is_digit, begins_plain}
use Rattle.stan_model_neon.specs.Nodes.{Null, Truth, Int, Text}
use Rattle.stan_neon_scalars.specs.Quotes.{first, is_empty}

abbrev pub with_digit : ℕ → ℕ → ℕ
with_digit value b = value * 10 + (b - 48)

unfoldable pub digits_value : List ℕ → ℕ
digits_value digits = fold with_digit 0 digits

-- the value of digits, where it is at most 2^63
unfoldable pub magnitude : List ℕ → Option ℕ
magnitude digits = if not (is_empty digits) && (list_all is_digit digits && nat_le (digits_value digits) 9223372036854775808) then Some (digits_value digits) else None

abbrev pub positive : ℕ → Option ℤ
positive value = if nat_le value 9223372036854775807 then Some (pos value) else None

abbrev pub negative : ℕ → ℤ
negative value = pos 0 -ℤ pos value

abbrev pub if_positive : Option ℕ → Option ℤ
if_positive None = None
if_positive (Some value) = positive value

-- the number of 64 bits that a plain text is: digits, and a `-` before them at will
unfoldable pub number : List ℕ → Option ℤ
number text = if first text == 45 then option_map negative (magnitude (drop 1 text)) else if_positive (magnitude text)

-- ---- texts

-- whether a plain text ends before this byte, by the byte before it
abbrev pub closes : Bool → ℕ → ℕ → Bool
closes listed before b = ((b == 35) && is_blank before) || (listed && ((b == 44) || (b == 93)))

-- the bytes up to where a plain text ends
abbrev pub front : Bool → ℕ → List ℕ → List ℕ
front listed before [] = []
front listed before (b ∷ bs) = if closes listed before b then [] else (b ∷ front listed b bs)

abbrev pub kept : ℕ → List ℕ → List ℕ
kept b [] = if is_blank b then [] else (b ∷ [])
kept b (c ∷ cs) = b ∷ c ∷ cs

-- without the blanks at the end
abbrev pub stripped : List ℕ → List ℕ
stripped [] = []
stripped (b ∷ bs) = kept b (stripped bs)

-- the bytes that may be a plain text
unfoldable pub plain_front : Bool → List ℕ → List ℕ
plain_front listed bytes = stripped (front listed 32 bytes)

-- whether `: ` stands somewhere, by the byte before
abbrev pub has_mark : ℕ → List ℕ → Bool
has_mark before [] = false
has_mark before (b ∷ bs) = ((before == 58) && (b == 32)) || has_mark b bs

abbrev pub is_true : List ℕ → Bool
is_true text = bytes_eq text (codes "true") || (bytes_eq text (codes "yes") || bytes_eq text (codes "on"))

abbrev pub is_false : List ℕ → Bool
is_false text = bytes_eq text (codes "false") || (bytes_eq text (codes "no") || bytes_eq text (codes "off"))

-- what a text means that is no number
unfoldable pub word : List ℕ → Option Node
word text =
    if is_true text then Some (Truth true) else (
    if is_false text then Some (Truth false) else (
    if bytes_eq text (codes "null") then Some Null else (
    if is_utf8 text then Some (Text text) else None)))

abbrev pub number_or_word : Option ℤ → List ℕ → Option Node
number_or_word (Some n) text = Some (Int n)
number_or_word None text = if not (is_empty text) && (begins_plain (first text) && not (has_mark 0 text)) then word text else None

-- what a plain text means
unfoldable pub plain : List ℕ → Option Node
plain text = number_or_word (number text) text
