pub mod Ready  -- the pair after the named point's move, and what a call leaves
