-- The names of cases, line by line.
use Rattle.std.proofs.Common.{◌≡◌, ℕ, ◌+◌, List, [], ◌∷◌, ◌++◌, None, Result, Ok, Err, map, drop, get_or, false, codes, refl, sym, ap, ◌∙◌}
use Rattle.std.proofs.Math.ListN.{set}
use Rattle.std.proofs.Math.Seq.{map-set_same}
use Rattle.std.proofs.lemmas.List.{map-append, append-nil}
use Rattle.std.proofs.lemmas.List.Elements.{filter-append}
use Rattle.std.proofs.lemmas.Str.Pattern.{starts_text}
use Rattle.std.specs.List.{filter, enumerate_from}
use Rattle.std.specs.Prelude.{OnOk, string_bytes}
use Rattle.std.specs.Str.Pattern.{FindsTextPrefix}
use Rattle.stan_case_text.specs.declared.case.Case.{Case}
use Rattle.stan_case_text.specs.Cases.{begins_case, name_of, names_begun}

pub names_begun-append : (xs ys : List (List ℕ)) → names_begun (xs ++ ys) ≡ names_begun xs ++ names_begun ys
names_begun-append xs ys = ap (map (drop 5)) (filter-append begins_case xs ys) ∙ map-append (drop 5) (filter begins_case xs) (filter begins_case ys)

-- a line more
pub line-more : {X : Type 0} (f : X → List ℕ) (lines : List X) (line : X) (old new : List (List ℕ)) → new ≡ old ++ names_begun (f line ∷ []) → old ≡ names_begun (map f lines) → new ≡ names_begun (map f (lines ++ line ∷ []))
line-more f lines line old new more e =
    more ∙ ap (λ those. those ++ names_begun (f line ∷ [])) e ∙ sym (names_begun-append (map f lines) (f line ∷ [])) ∙ ap names_begun (sym (map-append f lines (line ∷ [])))

names_begun-by : (line : List ℕ) → begins_case line ≡ false → names_begun (line ∷ []) ≡ []
names_begun-by line e = rw e refl

-- a line that begins no case
pub names_begun-other : (line : List ℕ) → FindsTextPrefix (codes "case ") line None → names_begun (line ∷ []) ≡ []
names_begun-other line none = names_begun-by line (sym (starts_text false (codes "case ") line none))

-- the last case takes such a line
pub names-kept : (cases : List Case) (place : ℕ) (new old : Case) (line : List ℕ) → new.name ≡ old.name → old ≡ get_or cases place old → FindsTextPrefix (codes "case ") line None
    → map name_of (set cases place new) ≡ map name_of cases ++ names_begun (line ∷ [])
names-kept cases place new old line kept is none =
    map-set_same name_of cases place new old (ap string_bytes kept ∙ ap name_of is) ∙ sym (ap (λ names. map name_of cases ++ names) (names_begun-other line none) ∙ append-nil (map name_of cases))

pub on_ok : {T E P : Type 0} (result : Result T E) → P → OnOk result P
on_ok (Ok x) p = p
on_ok (Err e) p = tt

-- numbered items without their numbers
seconds-numbered : {X : Type 0} (n : ℕ) (xs : List X) → map (λ (item : ℕ × X). item.1) (enumerate_from n xs) ≡ xs
seconds-numbered n [] = refl
seconds-numbered n (x ∷ xs) = ap (λ those. x ∷ those) (seconds-numbered (n + 1) xs)

seconds-read : {X Y : Type 0} (f : X → Y) (items : List (ℕ × X)) → map (λ (item : ℕ × Y). item.1) (map (λ (item : ℕ × X). (item.0, f item.1)) items) ≡ map (λ (item : ℕ × X). f item.1) items
seconds-read f [] = refl
seconds-read f (item ∷ items) = ap (λ those. f item.1 ∷ those) (seconds-read f items)

pub lines-read : {X Y : Type 0} (f : X → Y) (items : List (ℕ × X)) (lines : List Y) → map (λ (item : ℕ × X). (item.0, f item.1)) items ≡ enumerate_from 0 lines → map (λ (item : ℕ × X). f item.1) items ≡ lines
lines-read f items lines e = sym (seconds-read f items) ∙ ap (map (λ (item : ℕ × _). item.1)) e ∙ seconds-numbered 0 lines
