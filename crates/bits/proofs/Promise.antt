-- Document 01, "How promises are judged": a call's promise determines everything returned and everything lent. What a promise tells is a relation between
-- what was passed, what is returned and what is seen at exit (`Learnt`, which is read off the call's own `ensures`). Assumes nothing.
use mathlib.Core.Path.{◌≡◌}

module _ {K : Type 0} {Passed Returned Seen : K → Type 0} where
  -- two results that the promise allows are equal
  abbrev pub Determines : ((κs : K) → Passed κs → Returned κs → Seen κs → Type 0) → Type 0
  Determines Learnt = (κs : K) (passed : Passed κs) (r q : Returned κs) (s t : Seen κs) → Learnt κs passed r s → Learnt κs passed q t → r ≡ q

  -- and so are two values that it allows for what was lent
  abbrev pub DeterminesLent : {Lent : Type 0} → ((κs : K) → Seen κs → Lent) → ((κs : K) → Passed κs → Returned κs → Seen κs → Type 0) → Type 0
  DeterminesLent lent Learnt =
      (κs : K) (passed : Passed κs) (r q : Returned κs) (s t : Seen κs) → Learnt κs passed r s → Learnt κs passed q t → (r ≡ q) × (lent κs s ≡ lent κs t)
