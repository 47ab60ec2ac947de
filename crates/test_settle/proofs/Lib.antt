mod OfEnv
