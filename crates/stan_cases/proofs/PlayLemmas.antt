-- The files that a case gives, one by one.
use Rattle.std.proofs.Common.{◌≡◌, ℕ, ◌+◌, ◌-◌, ◌^◌, ◌<◌, List, [], ◌∷◌, ◌++◌, Vec, String, arith, get_or, take, map, length, codes, decimal, replicate, sym, ap, ◌∙◌, append_assoc}
use Rattle.std.proofs.lemmas.List.{map-append, map-id, append-nil, take_more, flat_map_more}
use Rattle.std.proofs.lemmas.List.FromFn.{map-range_with_len_more}
use Rattle.std.proofs.lemmas.Slice.Zip.{AllZip-map}
use Rattle.std.specs.declared.alloc.Global.{Global}
use Rattle.std.specs.Fmt.{format_spec, styled_decimal, padded_integral, char_count}
use Rattle.std.specs.List.{AllZip, range_with_len}
use Rattle.stan_case_text.specs.declared.case.Files.{Files}
use Rattle.stan_cases.specs.Played.{numbered_path, files_at, single_files}
use Rattle.stan_outside.specs.Memory.{file_of}

-- what the format writes
pub numbered_path-written : (n : ℕ) → styled_decimal (format_spec 32 0 4 5 (2 ^ 64 - 1)) n ++ codes ".php" ≡ numbered_path n
unfolding padded_integral char_count
numbered_path-written n =
    let wide : 5 - length (decimal n) - 0 - 0 ≡ 5 - length (decimal n) = omega arith in
    ap (λ count. (replicate count 48 ++ (decimal n ++ [])) ++ codes ".php") wide
    ∙ append_assoc (replicate (5 - length (decimal n)) 48) (decimal n ++ []) (codes ".php") ∙ ap (λ those. replicate (5 - length (decimal n)) 48 ++ (those ++ codes ".php")) (append-nil (decimal n))

pub copied : (xs ys : List ℕ) → AllZip (λ x y. y ≡ x) xs ys → ys ≡ xs
copied xs ys each = AllZip-map (λ x. x) xs ys each ∙ map-id xs

-- a file more
pub file-more : (before after : List (String Global × Vec ℕ Global)) (file : String Global × Vec ℕ Global) (path bytes : List ℕ) → after ≡ before ++ file ∷ [] → file_of file ≡ (path, bytes) → map file_of after ≡ map file_of before ++ (path, bytes) ∷ []
file-more before after file path bytes pushed is = ap (map file_of) pushed ∙ map-append file_of before (file ∷ []) ∙ ap (λ those. map file_of before ++ those ∷ []) is

-- a numbered file more
pub numbered-more : (start before after : List (List ℕ × List ℕ)) (count : ℕ) (bytes : List ℕ) → after ≡ before ++ (numbered_path count, bytes) ∷ []
    → before ≡ start ++ map (λ place. (numbered_path place, bytes)) (range_with_len 0 count) → after ≡ start ++ map (λ place. (numbered_path place, bytes)) (range_with_len 0 (count + 1))
numbered-more start before after count bytes more e =
    more ∙ ap (λ those. those ++ (numbered_path count, bytes) ∷ []) e ∙ append_assoc start (map (λ place. (numbered_path place, bytes)) (range_with_len 0 count)) ((numbered_path count, bytes) ∷ [])
    ∙ ap (λ those. start ++ those) (sym (map-range_with_len_more (λ place. (numbered_path place, bytes)) 0 count count (omega arith)))

-- the files of one line more
pub files-more : (all : List Files) (index : ℕ) (files : Files) (old new : List (List ℕ × List ℕ)) → index < length all → files ≡ get_or all index files → new ≡ old ++ files_at files.place files.bytes.items
    → old ≡ single_files (take index all) → new ≡ single_files (take (index + 1) all)
files-more all index files old new less is more e =
    more ∙ ap (λ those. those ++ files_at files.place files.bytes.items) e ∙ flat_map_more (λ (those : Files). files_at those.place those.bytes.items) [] (take index all) files
    ∙ ap single_files (ap (λ last. take index all ++ last ∷ []) is ∙ sym (take_more all index files less))
