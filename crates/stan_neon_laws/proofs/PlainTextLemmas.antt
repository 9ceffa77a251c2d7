-- Plain texts are read as themselves, and lines end with blanks or a remark.
use Rattle.std.proofs.Common.{◌≡◌, inl, inr, ℕ, ◌+◌, ◌-◌, suc, List, [], ◌∷◌, ◌++◌, Bool, true, false, length, refl, sym, ap, ◌∙◌, append-nil, arith}
use Rattle.std.specs.Prelude.{◌==◌, ◌&&◌, ◌||◌, Some, slice_index, codes}
use Rattle.std.specs.List.{list_all, prefix_len}
use Rattle.std.specs.Str.{bytes_eq}
use Rattle.std.proofs.Math.Seq.{drop-length}
use Rattle.std.proofs.lemmas.Bool.{eqb-true}
use Rattle.std.proofs.lemmas.Str.{is_utf8-from_IsUtf8}
use Rattle.stan_model_neon.specs.Nodes.{Text}
use Rattle.stan_model_neon.specs.Characters.{is_blank, is_quote, begins_plain}
use Rattle.stan_neon_scalars.specs.Quotes.{first, is_empty, unblanked, ends}
use Rattle.stan_neon_scalars.specs.Numbers.{front, kept, stripped, plain_front, is_true, is_false, word, plain}
use Rattle.stan_neon_scalars.specs.Scalars.{scalar, value}
use Rattle.stan_neon_laws.specs.PlainTexts.{has_remark, IsPlainText, IsEnd}

-- ---- the front of a plain text

or-left : (a b : Bool) → (a || b) ≡ false → a ≡ false
or-left true b e = e
or-left false b e = refl

or-right : (a b : Bool) → (a || b) ≡ false → b ≡ false
or-right true b e = absurd (cc e)
or-right false b e = e

or-false : (a : Bool) → (a || false) ≡ a
or-false true = refl
or-false false = refl

front-whole : (b : ℕ) (text : List ℕ) → has_remark b text ≡ false → front false b text ≡ text
front-whole b [] e = refl
front-whole b (c ∷ text) e =
    let f : ((c == 35) && is_blank b) ≡ false = or-left ((c == 35) && is_blank b) (has_remark c text) e in
    rw (or-false ((c == 35) && is_blank b), f) (ap (λ t. c ∷ t) (front-whole c text (or-right ((c == 35) && is_blank b) (has_remark c text) e)))

stripped-whole : (b : ℕ) (text : List ℕ) → is_blank (slice_index (b ∷ text) (length text)) ≡ false → stripped (b ∷ text) ≡ b ∷ text
stripped-whole b [] e = rw e refl
stripped-whole b (c ∷ text) e = ap (kept b) (stripped-whole c text e)

plain_front-whole : (text : List ℕ) → IsPlainText text → plain_front false text ≡ text
unfolding plain_front
plain_front-whole [] h = absurd (h.not_empty refl)
plain_front-whole (b ∷ text) h =
    let n : length (b ∷ text) - 1 ≡ length text = omega arith in
    ap stripped (front-whole 32 (b ∷ text) h.no_remark) ∙ stripped-whole b text (ap (λ k. is_blank (slice_index (b ∷ text) k)) (sym n) ∙ h.ends)

-- ---- what it means

word-text : (text : List ℕ) → IsPlainText text → word text ≡ Some (Text text)
unfolding word
word-text text h =
    let a = or-left (is_true text) (is_false text || bytes_eq text (codes "null")) h.no_word in
    let r = or-right (is_true text) (is_false text || bytes_eq text (codes "null")) h.no_word in
    let b = or-left (is_false text) (bytes_eq text (codes "null")) r in
    let d = or-right (is_false text) (bytes_eq text (codes "null")) r in
    rw (a, b, d, is_utf8-from_IsUtf8 text h.is_text) refl

plain-text : (text : List ℕ) → IsPlainText text → plain text ≡ Some (Text text)
unfolding plain
plain-text [] h = absurd (h.not_empty refl)
plain-text (b ∷ text) h = rw (h.no_number, h.begins, h.no_pair) (word-text (b ∷ text) h)

begins-false : (b c : ℕ) → begins_plain b ≡ true → begins_plain c ≡ false → (b == c) ≡ false
begins-false b c e f = by (b == c) refl
  where
    by : (x : Bool) → (b == c) ≡ x → (b == c) ≡ false
    by false g = g
    by true g = let h : true ≡ false = sym e ∙ ap begins_plain (eqb-true b c g) ∙ f in absurd (cc h)

no-quote : (b : ℕ) → begins_plain b ≡ true → is_quote b ≡ false
no-quote b e = rw (begins-false b 34 e refl, begins-false b 39 e refl) refl

ends-nothing : ends [] ≡ true
unfolding ends
ends-nothing = refl

pub plain-kept : (text : List ℕ) → IsPlainText text → value text ≡ Some (Text text)
unfolding value scalar
plain-kept text h =
    let f = plain_front-whole text h in
    rw (begins-false (slice_index text 0) 91 h.begins refl, no-quote (slice_index text 0) h.begins, f, plain-text text h, drop-length text, ends-nothing) refl

-- ---- ends of lines

unblanked-blank : (b : ℕ) (bs : List ℕ) → is_blank b ≡ true → unblanked (b ∷ bs) ≡ unblanked bs
unblanked-blank b bs e = let n : 1 + prefix_len is_blank bs ≡ suc (prefix_len is_blank bs) = omega arith in rw (e, n) refl

unblanked-other : (b : ℕ) (bs : List ℕ) → is_blank b ≡ false → unblanked (b ∷ bs) ≡ b ∷ bs
unblanked-other b bs e = rw e refl

all-first : (b : ℕ) (bs : List ℕ) → list_all is_blank (b ∷ bs) ≡ true → is_blank b ≡ true
all-first b bs e = by (is_blank b) e
  where
    by : (x : Bool) → (x && list_all is_blank bs) ≡ true → x ≡ true
    by true f = refl
    by false f = f

all-rest : (b : ℕ) (bs : List ℕ) → list_all is_blank (b ∷ bs) ≡ true → list_all is_blank bs ≡ true
all-rest b bs e = by (is_blank b) e
  where
    by : (x : Bool) → (x && list_all is_blank bs) ≡ true → list_all is_blank bs ≡ true
    by true f = f
    by false f = absurd (cc f)

unblanked-behind : (blanks rest : List ℕ) → list_all is_blank blanks ≡ true → unblanked (blanks ++ rest) ≡ unblanked rest
unblanked-behind [] rest e = refl
unblanked-behind (b ∷ blanks) rest e = unblanked-blank b (blanks ++ rest) (all-first b blanks e) ∙ unblanked-behind blanks rest (all-rest b blanks e)

unblanked-all : (bytes : List ℕ) → list_all is_blank bytes ≡ true → unblanked bytes ≡ []
unblanked-all [] e = refl
unblanked-all (b ∷ bs) e = unblanked-blank b bs (all-first b bs e) ∙ unblanked-all bs (all-rest b bs e)

split : (bytes : List ℕ) → (blanks : List ℕ) × ((bytes ≡ blanks ++ unblanked bytes) × (list_all is_blank blanks ≡ true))
split [] = ([], (refl, refl))
split (b ∷ bs) = by (is_blank b) refl (split bs)
  where
    by : (x : Bool) → is_blank b ≡ x → (blanks : List ℕ) × ((bs ≡ blanks ++ unblanked bs) × (list_all is_blank blanks ≡ true))
        → (blanks : List ℕ) × ((b ∷ bs ≡ blanks ++ unblanked (b ∷ bs)) × (list_all is_blank blanks ≡ true))
    by true e more = (b ∷ more.0, (ap (λ l. b ∷ l) more.1.0 ∙ ap (λ l. b ∷ (more.0 ++ l)) (sym (unblanked-blank b bs e)), rw e more.1.1))
    by false e more = ([], (sym (unblanked-other b bs e), refl))

from-ends : (bytes blanks rest : List ℕ) → bytes ≡ blanks ++ rest → list_all is_blank blanks ≡ true → (is_empty rest || ((first rest == 35) && is_blank (first bytes))) ≡ true → IsEnd bytes
from-ends bytes blanks [] e all h = inl (ap (list_all is_blank) (e ∙ append-nil blanks) ∙ all)
from-ends bytes [] (b ∷ rest) e all h =
    let sign : (b == 35) ≡ true = by (b == 35) (is_blank (first bytes)) h in
    let blank : is_blank (first bytes) ≡ true = right (b == 35) (is_blank (first bytes)) h in
    let f : true ≡ false = sym blank ∙ ap (λ l. is_blank (first l)) e ∙ ap is_blank (eqb-true b 35 sign) in
    absurd (cc f)
  where
    by : (x y : Bool) → (x && y) ≡ true → x ≡ true
    by true y g = refl
    by false y g = g

    right : (x y : Bool) → (x && y) ≡ true → y ≡ true
    right true y g = g
    right false y g = absurd (cc g)
from-ends bytes (c ∷ blanks) (b ∷ rest) e all h =
    let sign : (b == 35) ≡ true = by (b == 35) (is_blank (first bytes)) h in
    inr (c ∷ blanks, (rest, (e ∙ ap (λ x. (c ∷ blanks) ++ x ∷ rest) (eqb-true b 35 sign), (all, λ f. cc f))))
  where
    by : (x y : Bool) → (x && y) ≡ true → x ≡ true
    by true y g = refl
    by false y g = g

to-ends : (bytes : List ℕ) → IsEnd bytes → ends bytes ≡ true
unfolding ends
to-ends bytes (inl all) = rw (unblanked-all bytes all) refl
to-ends bytes (inr h) = by h.0 h.1.0 h.1.1.0 h.1.1.1.0 h.1.1.1.1
  where
    by : (blanks remark : List ℕ) → bytes ≡ blanks ++ 35 ∷ remark → list_all is_blank blanks ≡ true → (blanks ≡ [] → ⊥) → (is_empty (unblanked bytes) || ((first (unblanked bytes) == 35) && is_blank (first bytes))) ≡ true
    by [] remark e all n = absurd (n refl)
    by (c ∷ blanks) remark e all n = rw (e, unblanked-behind (c ∷ blanks) (35 ∷ remark) all, all-first c blanks all) refl

pub lines-end : (bytes : List ℕ) → (ends bytes ≡ true → IsEnd bytes) × (IsEnd bytes → ends bytes ≡ true)
unfolding ends
lines-end bytes = (λ h. from-ends bytes (split bytes).0 (unblanked bytes) (split bytes).1.0 (split bytes).1.1 h, to-ends bytes)
