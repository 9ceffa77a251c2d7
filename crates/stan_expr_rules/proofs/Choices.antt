-- Truth values, and values that may be absent.
use Rattle.std.proofs.Common.{◌≡◌, Bool, true, false, ◌&&◌, Option, Some, None, refl}

pub not_true : (x : Bool) → (x ≡ true → ⊥) → x ≡ false
not_true true h = absurd (h refl)
not_true false h = refl

pub and_false : (x : Bool) → (x && false) ≡ false
and_false true = refl
and_false false = refl

pub some_is : {A : Type 0} (x y : A) → (let s : A → Option A = Some in s x ≡ s y) → x ≡ y
some_is x y e = cc

pub nothing_is : {A : Type 0} (x : A) → (let s : Option A = None in s ≡ Some x) → ⊥
nothing_is x h = cc

pub none_of : {A : Type 0} (o : Option A) → ((x : A) → o ≡ Some x → ⊥) → o ≡ None
none_of None h = refl
none_of (Some x) h = absurd (h x refl)
