-- A comment has one reading.
use Rattle.std.proofs.Common.{◌≡◌, ℕ, List, [], ◌∷◌, Bool, true, false, refl, sym, ap, subst, ◌∙◌}
use Rattle.std.proofs.lemmas.Bool.{MatchBool-at_true, MatchBool-at_false}
use Rattle.stan_model_doc.specs.declared.token.DocToken.{DocToken}
use Rattle.stan_model_doc.specs.declared.token.TagSpan.{TagSpan}
use Rattle.stan_model_doc.specs.Comment.{doc_text, tag_spans}
use Rattle.stan_model_doc.specs.Fronts.{IsLongestFront, HasNoFront}
use Rattle.stan_model_doc.specs.Trees.{Forest}
use Rattle.stan_model_doc.specs.Doc.{DocTag, ReadTag, BadTag, span_of, is_known, IsTagReading, AreReadings}
use Rattle.stan_doc_law.specs.Laws.{OneReading}
use Rattle.stan_doc_law.proofs.TokenLemmas.{one_token_list}
use Rattle.stan_doc_law.proofs.FrontLemmas.{one_longest_front}

module _ (text : List ℕ) where
  read_once : (span : TagSpan) (f g : Forest) → IsTagReading text (ReadTag span f) → IsTagReading text (ReadTag span g) → f ≡ g
  read_once span f g h i =
      let same = one_token_list text span h.0 i.0 h.2 i.2 in
      (one_longest_front h.0 f g h.1 i.1 h.3 (subst (λ (ts : List DocToken). IsLongestFront ts g i.1) (sym same) i.3)).0

  read_or_bad : (span : TagSpan) (f : Forest) → IsTagReading text (ReadTag span f) → IsTagReading text (BadTag span) → ⊥
  read_or_bad span f h i =
      let same = one_token_list text span h.0 i.0 h.2 i.1 in
      subst (λ (ts : List DocToken). HasNoFront ts) (sym same) i.2 f h.1 h.3.front

  one_tag : (a b : DocTag) → span_of a ≡ span_of b → IsTagReading text a → IsTagReading text b → a ≡ b
  one_tag (ReadTag s f) (ReadTag t g) e h i =
      let j = subst (λ (span : TagSpan). IsTagReading text (ReadTag span g)) (sym e) i in
      let same = read_once s f g h j in
      ap (λ tree. ReadTag s tree) same ∙ ap (λ span. ReadTag span g) e
  one_tag (ReadTag s f) (BadTag t) e h i = absurd (read_or_bad s f h (subst (λ (span : TagSpan). IsTagReading text (BadTag span)) (sym e) i))
  one_tag (BadTag s) (ReadTag t g) e h i = absurd (read_or_bad t g i (subst (λ (span : TagSpan). IsTagReading text (BadTag span)) e h))
  one_tag (BadTag s) (BadTag t) e h i = ap BadTag e

  behind : (span : TagSpan) (spans : List TagSpan) → ((cs bs : List DocTag) → AreReadings text spans cs → AreReadings text spans bs → cs ≡ bs) → (k : Bool) → is_known text span ≡ k → (cs bs : List DocTag) → AreReadings text (span ∷ spans) cs → AreReadings text (span ∷ spans) bs → cs ≡ bs
  behind span spans rest true e [] bs h i = absurd (MatchBool-at_true ⊥ (AreReadings text spans []) e h)
  behind span spans rest true e (a ∷ cs) [] h i = absurd (MatchBool-at_true ⊥ (AreReadings text spans []) e i)
  behind span spans rest true e (a ∷ cs) (b ∷ bs) h i =
      let x = MatchBool-at_true ((span_of a ≡ span) × IsTagReading text a × AreReadings text spans cs) (AreReadings text spans (a ∷ cs)) e h in
      let y = MatchBool-at_true ((span_of b ≡ span) × IsTagReading text b × AreReadings text spans bs) (AreReadings text spans (b ∷ bs)) e i in
      let one = one_tag a b (x.0 ∙ sym y.0) x.1 y.1 in
      let more = rest cs bs x.2 y.2 in
      ap (λ tag. tag ∷ cs) one ∙ ap (λ tags. b ∷ tags) more
  behind span spans rest false e [] [] h i = refl
  behind span spans rest false e [] (b ∷ bs) h i =
      rest [] (b ∷ bs) (MatchBool-at_false ⊥ (AreReadings text spans []) e h)
      (MatchBool-at_false ((span_of b ≡ span) × IsTagReading text b × AreReadings text spans bs) (AreReadings text spans (b ∷ bs)) e i)
  behind span spans rest false e (a ∷ cs) [] h i =
      rest (a ∷ cs) [] (MatchBool-at_false ((span_of a ≡ span) × IsTagReading text a × AreReadings text spans cs) (AreReadings text spans (a ∷ cs)) e h)
      (MatchBool-at_false ⊥ (AreReadings text spans []) e i)
  behind span spans rest false e (a ∷ cs) (b ∷ bs) h i =
      rest (a ∷ cs) (b ∷ bs) (MatchBool-at_false ((span_of a ≡ span) × IsTagReading text a × AreReadings text spans cs) (AreReadings text spans (a ∷ cs)) e h)
      (MatchBool-at_false ((span_of b ≡ span) × IsTagReading text b × AreReadings text spans bs) (AreReadings text spans (b ∷ bs)) e i)

  readings : (spans : List TagSpan) (cs bs : List DocTag) → AreReadings text spans cs → AreReadings text spans bs → cs ≡ bs
  readings [] [] [] h i = refl
  readings [] (a ∷ cs) bs h i = absurd h
  readings [] [] (b ∷ bs) h i = absurd i
  readings (span ∷ spans) cs bs h i = behind span spans (readings spans) (is_known text span) refl cs bs h i

pub one_reading : OneReading
one_reading comment tags others h i = readings (doc_text comment) (tag_spans (doc_text comment)) tags others h i
