-- The signs of a text, character by character.
use Rattle.std.proofs.Common.{◌≡◌, ℕ, List, [], ◌∷◌, ◌++◌, map, sym, ap, ap₂, ◌∙◌, encode_utf8_all}
use Rattle.std.specs.Prelude.{encode_utf8}
use Rattle.std.proofs.lemmas.List.{append-nil, map-append, map-id}
use Rattle.std.proofs.lemmas.Str.{encodes-append}
use Rattle.stan_rows.specs.Signs.{meant_char, plain_text}
use Rattle.std.specs.Str.{chars}

-- a character more
pub plain-more : (old new read : List ℕ) (c meant : ℕ) → new ≡ old ++ encode_utf8 meant → meant ≡ meant_char c → old ≡ encode_utf8_all (map meant_char read) → new ≡ encode_utf8_all (map meant_char (read ++ c ∷ []))
plain-more old new read c meant more same e =
    more ∙ ap₂ (λ front last. front ++ encode_utf8 last) e same ∙ ap (λ last. encode_utf8_all (map meant_char read) ++ last) (sym (append-nil (encode_utf8 (meant_char c)))) ∙ sym (encodes-append (map meant_char read) (meant_char c ∷ [])) ∙ ap encode_utf8_all (sym (map-append meant_char read (c ∷ [])))

-- all characters
pub plain-all : (read text : List ℕ) → map (λ c. c) read ≡ chars text → encode_utf8_all (map meant_char read) ≡ plain_text text
unfolding plain_text
plain-all read text e = ap (λ those. encode_utf8_all (map meant_char those)) (sym (map-id read) ∙ e)
