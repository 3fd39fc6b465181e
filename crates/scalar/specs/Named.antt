-- A value under a name: how definitions write a straight line of steps.

-- x, under a name in what follows. It unfolds only where it is asked to, so that a value that is used twice is written once
infixr 5 ◌▸◌
unfoldable pub ◌▸◌ : {A B : Type 0} → A → (A → B) → B
x ▸ f = f x
