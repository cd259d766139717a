mod MayLemmas
