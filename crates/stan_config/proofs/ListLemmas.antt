-- Searches through a view of the items, and items that are left.
use Rattle.std.proofs.Common.{◌≡◌, ◌∙◌, ◌<◌, ◌≤◌, ◌+◌, ℕ, Bool, false, if◌then◌else◌, List, [], ◌∷◌, ◌++◌, get_or, drop, length, map, string_bytes, refl, sym, ap}
use Rattle.std.specs.Prelude.{◌||◌, String}
use Rattle.std.specs.declared.alloc.Global.{Global}
use Rattle.std.specs.List.{list_any}
use Rattle.std.specs.Str.{bytes_eq}
use Rattle.std.proofs.lemmas.List.{drop_more, drop_all, map_push}
use Rattle.std.proofs.lemmas.Bool.{cond-false}
use Rattle.std.specs.Cmp.Lexicographic.{nat_list_eq_equiv}
use Rattle.stan_model_config.specs.Faults.{is_among}

pub list_any-map : {X Y : Type 0} (test : Y → Bool) (f : X → Y) (xs : List X) → list_any test (map f xs) ≡ list_any (λ x. test (f x)) xs
list_any-map test f [] = refl
list_any-map test f (x ∷ xs) = ap (λ b. test (f x) || b) (list_any-map test f xs)

-- a search that was made in the same lists
pub leads : (value : Bool) (shown longer there includes : List (List ℕ)) → list_any (λ include. is_among shown include) there ≡ value → shown ≡ longer → there ≡ includes → list_any (λ include. is_among longer include) includes ≡ value
leads value shown longer there includes e s t = (λ i. list_any (λ include. is_among (sym s i) include) (sym t i)) ∙ e

-- the next item, and no item
pub next_item : (items : List (String Global)) (at : ℕ) (item : String Global) (text : List ℕ) → at < length items → item ≡ get_or items at item → text ≡ string_bytes item → map string_bytes (drop at items) ≡ text ∷ map string_bytes (drop (at + 1) items)
next_item items at item text lt is e = ap (map string_bytes) (drop_more items at item lt) ∙ (λ i. (ap string_bytes (sym is) ∙ sym e) i ∷ map string_bytes (drop (at + 1) items))

pub no_item : (items : List (String Global)) (at : ℕ) → length items ≤ at → map string_bytes (drop at items) ≡ []
no_item items at le = ap (map string_bytes) (drop_all at items le)

-- a search that was made for the same text
pub among : (value found : Bool) (read : List (List ℕ)) (looked text other : List ℕ) → found ≡ is_among read looked → looked ≡ text → other ≡ text → found ≡ value → is_among read other ≡ value
among value found read looked text other e l o v = ap (is_among read) (o ∙ sym l) ∙ sym e ∙ v

-- A name is found among names whichever way it is compared with them.
pub among_names : (names : List (String Global)) (file : List ℕ) → list_any (λ name. bytes_eq file (string_bytes name)) names ≡ is_among (map string_bytes names) file
among_names [] file = refl
among_names (name ∷ names) file = λ i. nat_list_eq_equiv.symm file (string_bytes name) i || among_names names file i

-- a name that is new among others
pub name_added : (names after : List (String Global)) (name : String Global) (file : List ℕ) → after ≡ (if list_any (λ other. bytes_eq (string_bytes name) (string_bytes other)) names then names else names ++ name ∷ []) → string_bytes name ≡ file
    → is_among (map string_bytes names) file ≡ false → map string_bytes after ≡ map string_bytes names ++ file ∷ []
name_added names after name file is e none =
    let new : list_any (λ other. bytes_eq (string_bytes name) (string_bytes other)) names ≡ false = among_names names (string_bytes name) ∙ ap (is_among (map string_bytes names)) e ∙ none in
    ap (map string_bytes) (is ∙ cond-false (list_any (λ other. bytes_eq (string_bytes name) (string_bytes other)) names) _ _ new)
    ∙ map_push string_bytes names name ∙ ap (λ t. map string_bytes names ++ t ∷ []) e
