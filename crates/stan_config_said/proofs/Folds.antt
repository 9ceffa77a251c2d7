-- Maps and lists that are read from their end.
use Rattle.std.proofs.Common.{◌≡◌, ◌∙◌, ℕ, List, [], ◌∷◌, ◌++◌, map, refl, ap, sym}
use Rattle.std.specs.Prelude.{reverse}
use Rattle.std.proofs.lemmas.List.{map-append, reverse-append}
use Rattle.stan_model_neon.specs.declared.node.Node.{Node}
use Rattle.stan_model_config.specs.Keys.{top_key, parameter, entry_key}
use Rattle.stan_model_config.specs.Said.{Said, Content, EntryParts, with, said_with, content_with, contents_with, entry_with, parts_with}

pub parts_last : (file : List ℕ) (pairs : List (List ℕ × Node)) (last : List ℕ × Node) (parts : EntryParts) → parts_with file (pairs ++ last ∷ []) parts ≡ parts_with file pairs (entry_with file (entry_key last.0) last.1 parts)
parts_last file [] last parts = refl
parts_last file (pair ∷ pairs) last parts = ap (entry_with file (entry_key pair.0) pair.1) (parts_last file pairs last parts)

pub said_last : (file : List ℕ) (pairs : List (List ℕ × Node)) (last : List ℕ × Node) (said : Said) → said_with file (pairs ++ last ∷ []) said ≡ said_with file pairs (with file (parameter last.0) last.1 said)
said_last file [] last said = refl
said_last file (pair ∷ pairs) last said = ap (with file (parameter pair.0) pair.1) (said_last file pairs last said)

pub content_last : (file : List ℕ) (pairs : List (List ℕ × Node)) (last : List ℕ × Node) (content : Content) → contents_with file (pairs ++ last ∷ []) content ≡ contents_with file pairs (content_with file (top_key last.0) last.1 content)
content_last file [] last content = refl
content_last file (pair ∷ pairs) last content = ap (content_with file (top_key pair.0) pair.1) (content_last file pairs last content)

-- what is made of a list in reverse
pub map_reverse : {X Y : Type 0} (f : X → Y) (xs : List X) → map f (reverse xs) ≡ reverse (map f xs)
map_reverse f [] = refl
map_reverse f (x ∷ xs) = ap (map f) (reverse-append (x ∷ []) xs) ∙ map-append f (reverse xs) (x ∷ []) ∙ ap (λ ys. ys ++ f x ∷ []) (map_reverse f xs) ∙ sym (reverse-append (f x ∷ []) (map f xs))
