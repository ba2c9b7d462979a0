-- A field of characteristic 2, and the list of its laws that decides identities: `simp ring`.
-- Assumes nothing.
use mathlib.Core.Path.{◌≡◌, sym, ◌∙◌}
use mathlib.Core.Logic.{◌≢◌}

pub record Field2 : Type 1 where
  pub Element : Type 0
  pub zero : Element
  pub one : Element
  pub add : Element → Element → Element
  pub mul : Element → Element → Element
  pub inv : Element → Element
  pub same? : Discrete Element
  pub add_comm : (a b : Element) → add a b ≡ add b a
  pub add_assoc : (a b c : Element) → add (add a b) c ≡ add a (add b c)
  pub zero-add : (a : Element) → add zero a ≡ a
  pub add_self : (a : Element) → add a a ≡ zero
  pub mul_comm : (a b : Element) → mul a b ≡ mul b a
  pub mul_assoc : (a b c : Element) → mul (mul a b) c ≡ mul a (mul b c)
  pub one-mul : (a : Element) → mul one a ≡ a
  pub mul-add : (a b c : Element) → mul a (add b c) ≡ add (mul a b) (mul a c)
  pub one-ne-zero : one ≢ zero
  pub mul-inv : (a : Element) → a ≢ zero → mul a (inv a) ≡ one

module _ (F : Field2) where
  open F use {Element, zero as 𝟘, one as 𝟙, add as ◌⊕◌, mul as ◌⊗◌, inv}

  infixl 60 ◌⊕◌
  infixl 70 ◌⊗◌
  -- the record's laws, under names that a list of laws can hold
  pub add_comm : (a b : Element) → a ⊕ b ≡ b ⊕ a
  add_comm = F.add_comm

  pub add_assoc : (a b c : Element) → a ⊕ b ⊕ c ≡ a ⊕ (b ⊕ c)
  add_assoc = F.add_assoc

  pub zero-add : (a : Element) → 𝟘 ⊕ a ≡ a
  zero-add = F.zero-add

  pub add_self : (a : Element) → a ⊕ a ≡ 𝟘
  add_self = F.add_self

  pub mul_comm : (a b : Element) → a ⊗ b ≡ b ⊗ a
  mul_comm = F.mul_comm

  pub mul_assoc : (a b c : Element) → a ⊗ b ⊗ c ≡ a ⊗ (b ⊗ c)
  mul_assoc = F.mul_assoc

  pub one-mul : (a : Element) → 𝟙 ⊗ a ≡ a
  one-mul = F.one-mul

  pub mul-add : (a b c : Element) → a ⊗ (b ⊕ c) ≡ a ⊗ b ⊕ a ⊗ c
  mul-add = F.mul-add

  -- and what follows of them
  pub add-zero : (a : Element) → a ⊕ 𝟘 ≡ a
  add-zero a = add_comm a 𝟘 ∙ zero-add a

  pub mul-one : (a : Element) → a ⊗ 𝟙 ≡ a
  mul-one a = mul_comm a 𝟙 ∙ one-mul a

  pub add-mul : (a b c : Element) → (a ⊕ b) ⊗ c ≡ a ⊗ c ⊕ b ⊗ c
  add-mul a b c = mul_comm (a ⊕ b) c ∙ mul-add c a b ∙ cc (mul_comm c a, mul_comm c b)

  pub add_left_comm : (a b c : Element) → a ⊕ (b ⊕ c) ≡ b ⊕ (a ⊕ c)
  add_left_comm a b c = simp (← add_assoc) (rw (add_comm a b))

  pub mul_left_comm : (a b c : Element) → a ⊗ (b ⊗ c) ≡ b ⊗ (a ⊗ c)
  mul_left_comm a b c = simp (← mul_assoc) (rw (mul_comm a b))

  pub add_self_left : (a b : Element) → a ⊕ (a ⊕ b) ≡ b
  add_self_left a b = simp (← add_assoc, add_self, zero-add)

  pub mul-zero : (a : Element) → a ⊗ 𝟘 ≡ 𝟘
  mul-zero a = cc (mul-add a 𝟘 𝟘, zero-add 𝟘, add_self (a ⊗ 𝟘))

  pub zero-mul : (a : Element) → 𝟘 ⊗ a ≡ 𝟘
  zero-mul a = mul_comm 𝟘 a ∙ mul-zero a

  -- decides an identity of commutative rings of characteristic 2
  pub ruleset ring = (add_assoc, add_comm, add_left_comm, add_self, add_self_left, zero-add, add-zero, mul_assoc, mul_comm, mul_left_comm, one-mul, mul-one, mul-add, add-mul, zero-mul, mul-zero)

  -- in characteristic 2 two elements are equal where their sum is zero
  pub eq_of_add : (a b : Element) → a ⊕ b ≡ 𝟘 → a ≡ b
  eq_of_add a b h = sym (add_self_left b a) ∙ cc (add_comm a b, add-zero b)

  pub add_of_eq : {a b : Element} → a ≡ b → a ⊕ b ≡ 𝟘
  add_of_eq {a} {b} h = rw h (add_self b)

  -- no zero divisors
  pub factor_zero : (a b : Element) → a ≢ 𝟘 → a ⊗ b ≡ 𝟘 → b ≡ 𝟘
  factor_zero a b h e = sym (one-mul b) ∙ cc (F.mul-inv a h, mul_comm a (inv a), mul_assoc (inv a) a b, mul-zero (inv a))
