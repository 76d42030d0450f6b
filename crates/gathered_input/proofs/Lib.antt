mod GatheredMore
