-- Laws that give several facts in one, cited where a function's clauses are named one by one.
pub two_clauses : {A B R : Type 0} → (A → B → R) → A × B → R
two_clauses f p = f p.0 p.1

pub three_clauses : {A B D R : Type 0} → (A → B → D → R) → A × (B × D) → R
three_clauses f p = f p.0 p.1.0 p.1.1

pub four_clauses : {A B D E R : Type 0} → (A → B → D → E → R) → A × (B × (D × E)) → R
four_clauses f p = f p.0 p.1.0 p.1.1.0 p.1.1.1
